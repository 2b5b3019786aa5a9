use Rattle.std.proofs.Common.{◌≡◌, ◌+◌, ◌<◌, length, map}
use Rattle.c_types_rules.specs.Items.{listed}
use Rattle.c_lower_rules.specs.Programs.{bound_params}
use Rattle.c_tree.specs.NonEmpty.{left}
use Rattle.c_tree.specs.Syntax.{param_tree, params_tree}
use Rattle.c_lower_exprs.specs.Seen.{stacked}
use Rattle.c_lower_exprs.proofs.params.bind_params.Given as goal

abbrev pub invariant-loop-param : goal.invariant-loop-param
invariant-loop-param l = record {
  slot : length (listed (params_tree l.params)) < 4294967296
      → l.slot + length (map param_tree (left l.param-iterator)) ≡ length (listed (params_tree l.params));
  bound : length (listed (params_tree l.params)) < 4294967296
      → bound_params l.slot (map param_tree (left l.param-iterator)) (stacked l.bound)
      ≡ bound_params 0 (listed (params_tree l.params)) (stacked l.initial.bound);
}
