use Rattle.std.proofs.Common.{◌≡◌, [], replicate}
use Rattle.call_components.specs.Reaching.{rows}
use Rattle.call_components.proofs.calls.empty_rows.Given as goal

abbrev pub invariant-loop-number : goal.invariant-loop-number
invariant-loop-number g l = rows l.made.items ≡ replicate l._number []
