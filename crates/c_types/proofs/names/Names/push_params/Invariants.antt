use Rattle.std.proofs.Common.{◌≡◌, ◌++◌, map}
use Rattle.c_types_rules.specs.Items.{param_names, listed}
use Rattle.c_tree.specs.NonEmpty.{left}
use Rattle.c_tree.specs.Syntax.{param_tree, params_tree}
use Rattle.c_types.proofs.names.Names.push_params.Given as goal

abbrev pub invariant-loop-param : goal.invariant-loop-param
invariant-loop-param l = l.self ++ param_names (map param_tree (left l.param-iterator))
    ≡ l.initial.self ++ param_names (listed (params_tree l.params))
