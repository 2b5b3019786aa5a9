use Rattle.std.proofs.Common.{◌≡◌, map}
use Rattle.c_types_rules.specs.Items.{unnamed_refusals, listed}
use Rattle.c_tree.specs.NonEmpty.{left}
use Rattle.c_tree.specs.Syntax.{param_tree, params_tree}
use Rattle.c_types_names.specs.FirstRefusal.{with_refusals}
use Rattle.c_types.proofs.items.unnamed_refusals.Given as goal

abbrev pub invariant-loop-param : goal.invariant-loop-param
invariant-loop-param l =
    with_refusals l.first (unnamed_refusals (map param_tree (left l.param-iterator)))
    ≡ with_refusals l.initial.first (unnamed_refusals (listed (params_tree l.params)))
