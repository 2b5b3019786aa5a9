use Rattle.std.proofs.Common.{◌≡◌, map, take}
use Rattle.call_components.specs.Reaching.{rows}
use Rattle.call_components.specs.Waiting.{outside_of}
use Rattle.call_components.proofs.waiting.all_outside.Given as goal

abbrev pub invariant-loop-class : goal.invariant-loop-class
invariant-loop-class l = rows l.made.items ≡ map (outside_of l.kinds (rows l.calls)) (rows (take l.class-index l.all))
