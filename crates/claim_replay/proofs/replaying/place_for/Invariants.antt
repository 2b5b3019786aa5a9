use Rattle.std.proofs.Common.{◌<◌, ◌≤◌, ℕ, get_or}
use Rattle.claim_replay.specs.declared.world.Slot.{Slot}
use Rattle.claim_replay.proofs.replaying.place_for.Given as goal

-- the slots before are of no later claims
abbrev pub invariant-loop-place : goal.invariant-loop-place
invariant-loop-place l = (k : ℕ) (d : Slot) → k < l.place → (get_or l.slots k d).claim ≤ l.claim
