use Rattle.std.proofs.Common.{drop}
use Rattle.c_tree.specs.Syntax.{stmts_tree}
use Rattle.c_lower_sizes.specs.Sizes.{stmts_locals}
use Rattle.c_lower_sizes.proofs.Adding.{IsSumUpTo}
use Rattle.c_lower_sizes.proofs.locals.local_count.Given as goal

abbrev pub invariant-loop-one : goal.invariant-loop-one
invariant-loop-one l = IsSumUpTo (stmts_locals (stmts_tree (drop l.one-index l.body))) (stmts_locals (stmts_tree l.body)) l.total
