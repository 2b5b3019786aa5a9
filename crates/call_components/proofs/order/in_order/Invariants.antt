use Rattle.std.proofs.Common.{◌≡◌}
use Rattle.call_components.specs.Sorting.{below}
use Rattle.call_components.proofs.order.in_order.Given as goal

abbrev pub invariant-loop-number : goal.invariant-loop-number
invariant-loop-number l = l.order.items ≡ below l.number
