use Rattle.std.proofs.Common.{drop}
use Rattle.c_tree.specs.Syntax.{stmts_tree}
use Rattle.c_lower_sizes.specs.Sizes.{stmts_locals}
use Rattle.c_lower_sizes.proofs.Adding.{IsSumUpTo}
use Rattle.c_lower_sizes.proofs.locals.+locals.Given as goal

abbrev pub invariant-block_locals-loop-one : goal.invariant-block_locals-loop-one
invariant-block_locals-loop-one l =
    IsSumUpTo (stmts_locals (stmts_tree (drop l.one-index l.one-items))) (stmts_locals (stmts_tree l.one-items)) l.total
