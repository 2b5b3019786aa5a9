use Rattle.std.proofs.Common.{◌≡◌, ◌<◌, ℕ, false, get_or}
use Rattle.component_keys.specs.Components.{same_names}
use Rattle.claim_replay.specs.declared.world.Slot.{Slot}
use Rattle.claim_replay.proofs.known.slot_place.Given as goal

-- no slot before is of these members
abbrev pub invariant-loop-place : goal.invariant-loop-place
invariant-loop-place l = (k : ℕ) (d : Slot) → k < l.place → same_names (get_or l.slots k d).members l.members ≡ false
