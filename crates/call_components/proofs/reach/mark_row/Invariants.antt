use Rattle.std.proofs.Common.{take}
use Rattle.call_components.specs.Reaching.{AreMarked}
use Rattle.call_components.proofs.reach.mark_row.Given as goal

abbrev pub invariant-loop-number : goal.invariant-loop-number
invariant-loop-number l = AreMarked (take l.number-index l.row) l.initial.marks.items l.initial.todo.items l.marks.items l.todo.items
