use Rattle.std.proofs.Common.{◌≡◌, map}
use Rattle.c_types_rules.specs.Tables.{param_kind, param_kinds}
use Rattle.c_types_rules.specs.Expressions.{all_fit}
use Rattle.c_tree.specs.NonEmpty.{left}
use Rattle.c_tree.specs.Syntax.{param_tree, params_tree, args_tree}
use Rattle.c_types_exprs.proofs.refusals.all_fit.Given as goal

abbrev pub invariant-loop-param : goal.invariant-loop-param
invariant-loop-param l =
    all_fit l.env (map (param_kind l.env.tables) (map param_tree (left l.param-iterator))) (args_tree l.left.rest.now)
    ≡ all_fit l.env (param_kinds l.env.tables (params_tree l.params)) (args_tree l.args)
