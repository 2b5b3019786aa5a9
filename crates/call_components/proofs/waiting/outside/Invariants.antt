use Rattle.std.proofs.Common.{◌≡◌, take}
use Rattle.std.specs.List.{flat_map}
use Rattle.call_components.specs.Reaching.{rows}
use Rattle.call_components.specs.Waiting.{calls_outside}
use Rattle.call_components.proofs.waiting.outside.Given as goal

abbrev pub invariant-loop-number : goal.invariant-loop-number
invariant-loop-number l = l.row.items ≡ flat_map (calls_outside l.kinds (rows l.calls)) (take l.number-index l.class)
