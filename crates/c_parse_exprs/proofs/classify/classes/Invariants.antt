use Rattle.std.proofs.Common.{◌≡◌, ◌++◌, length}
use Rattle.c_parse_exprs.specs.Cursors.{classes_of}
use Rattle.c_parse_exprs.proofs.classify.classes.Given as goal

abbrev pub invariant-loop-left : goal.invariant-loop-left
invariant-loop-left l = l.found.items ++ classes_of l.left ≡ classes_of l.tokens

abbrev pub decreases-loop-left : goal.decreases-loop-left
decreases-loop-left l = length l.left
