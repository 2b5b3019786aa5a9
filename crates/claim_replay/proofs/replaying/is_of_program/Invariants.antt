use Rattle.std.proofs.Common.{◌≡◌, false, take}
use Rattle.std.specs.List.{list_any}
use Rattle.component_keys.specs.Components.{same_names}
use Rattle.claim_replay.specs.Values.{row_names}
use Rattle.claim_replay.proofs.replaying.is_of_program.Given as goal

abbrev pub invariant-loop-row : goal.invariant-loop-row
invariant-loop-row l = list_any (λ row. same_names (row_names l.program row) l.slot.members) (take l.row-index l.rows) ≡ false
