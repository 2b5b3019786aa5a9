use Rattle.std.proofs.Common.{◌≡◌, ◌<◌, ℕ, false, get_or}
use Rattle.component_keys.specs.Components.{same_names}
use Rattle.composed_keys.specs.declared.rows.Component.{Component}
use Rattle.claim_replay.specs.Values.{row_names}
use Rattle.claim_replay.proofs.replaying.row_place.Given as goal

-- no row before is of these members
abbrev pub invariant-loop-place : goal.invariant-loop-place
invariant-loop-place l = (k : ℕ) (d : Component) → k < l.place → same_names (row_names l.program (get_or l.rows k d)) l.members ≡ false
