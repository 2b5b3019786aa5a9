use Rattle.std.proofs.Common.{◌+◌, map, take, drop}
use Rattle.c_tree.specs.Syntax.{expr_tree, links_tree, args_tree}
use Rattle.c_lower_rules.specs.Numbers.{AllHaveIntNumbers}
use Rattle.c_lower_exprs.proofs.Arguing.{ArgumentsSoFar}
use Rattle.c_lower_exprs.proofs.Weights.{weight, links_weight, args_weight}
use Rattle.c_lower_exprs.proofs.values.+values.Given as goal

abbrev pub decreases-lower : goal.decreases-lower
decreases-lower l = weight (expr_tree l.expr.now)

abbrev pub decreases-prefix : goal.decreases-prefix
decreases-prefix l = weight (expr_tree l.inner.now.value) + 1

abbrev pub decreases-chain : goal.decreases-chain
decreases-chain l = weight (expr_tree l.first.now.value) + links_weight (links_tree (take l.count l.links.now.items)) + 2

abbrev pub decreases-values : goal.decreases-values
decreases-values l = args_weight (args_tree l.args.now.items) + 1

abbrev pub invariant-values-loop-arg : goal.invariant-values-loop-arg
invariant-values-loop-arg l =
    AllHaveIntNumbers (args_tree l.fn.args.items)
    → ArgumentsSoFar l.site l.site.first_temp (map expr_tree l.fn.args.items)
    (map expr_tree (drop l.arg-index l.arg-items)) l.fn.out l.out l.operands.items
