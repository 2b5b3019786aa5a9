use Rattle.std.proofs.Common.{◌≡◌, length}
use Rattle.c_lower_marks.specs.Placed.{with_marks}
use Rattle.c_lower_marks.proofs.marking.with_marks.Given as goal

abbrev pub invariant-loop-mark : goal.invariant-loop-mark
invariant-loop-mark l = (l.place ≡ length l.yielded) × (l.nodes.items ≡ with_marks l.yielded l.initial.nodes.items)
