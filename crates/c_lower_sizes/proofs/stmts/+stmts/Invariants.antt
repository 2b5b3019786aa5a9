use Rattle.std.proofs.Common.{drop}
use Rattle.c_tree.specs.Syntax.{stmts_tree}
use Rattle.c_lower_sizes.specs.Sizes.{stmts_size}
use Rattle.c_lower_sizes.proofs.Adding.{IsSumUpTo}
use Rattle.c_lower_sizes.proofs.stmts.+stmts.Given as goal

abbrev pub invariant-block-loop-one : goal.invariant-block-loop-one
invariant-block-loop-one l =
    IsSumUpTo (stmts_size (stmts_tree (drop l.one-index l.one-items))) (stmts_size (stmts_tree l.one-items)) l.total
