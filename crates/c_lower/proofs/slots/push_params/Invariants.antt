use Rattle.std.proofs.Common.{◌≡◌, ◌++◌, map}
use Rattle.c_grammar.specs.Trees.{Param as ParamTree}
use Rattle.c_types_rules.specs.Tables.{param_kind}
use Rattle.c_types_rules.specs.Items.{listed}
use Rattle.c_types_rules.specs.Programs.{known}
use Rattle.c_tree.specs.NonEmpty.{left}
use Rattle.c_tree.specs.Syntax.{param_tree, params_tree}
use Rattle.c_lower.proofs.slots.push_params.Given as goal

abbrev pub invariant-loop-param : goal.invariant-loop-param
invariant-loop-param l =
    l.slots ++ map (λ (p : ParamTree). known (param_kind l.tables p)) (map param_tree (left l.param-iterator))
    ≡ l.initial.slots ++ map (λ (p : ParamTree). known (param_kind l.tables p)) (listed (params_tree l.params))
