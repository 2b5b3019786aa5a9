use Rattle.std.proofs.Common.{length, ◌+◌}
use Rattle.call_components.specs.Reaching.{IsReaching, unmarked, rows}
use Rattle.call_components.proofs.reach.reach.Given as goal

abbrev pub invariant-loop-number : goal.invariant-loop-number
invariant-loop-number l = IsReaching (rows l.calls) l.starts l.marks.items l.todo.items

abbrev pub decreases-loop-number : goal.decreases-loop-number
decreases-loop-number l = unmarked l.marks.items + length l.todo.items
