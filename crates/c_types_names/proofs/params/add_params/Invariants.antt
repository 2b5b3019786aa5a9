use Rattle.std.proofs.Common.{◌≡◌, map}
use Rattle.c_types_rules.specs.Items.{listed}
use Rattle.c_tree.specs.NonEmpty.{left}
use Rattle.c_tree.specs.Syntax.{param_tree, params_tree}
use Rattle.c_types_names.specs.Behind.{behind_params}
use Rattle.c_types_names.proofs.params.add_params.Given as goal

abbrev pub invariant-loop-param : goal.invariant-loop-param
invariant-loop-param l = record {
  env : behind_params l.env (map param_tree (left l.param-iterator)) ≡ behind_params l.initial.env (listed (params_tree l.params));
  tables : l.env.tables ≡ l.initial.env.tables;
}
