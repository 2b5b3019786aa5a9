use Rattle.std.proofs.Common.{[], map}
use Rattle.c_types_rules.specs.Items.{each_param_refusals, listed}
use Rattle.c_tree.specs.NonEmpty.{left}
use Rattle.c_tree.specs.Syntax.{param_tree, params_tree}
use Rattle.c_types_names.specs.FirstRefusal.{with_refusals}
use Rattle.c_types.proofs.ParamsInTurn.{HasLookedAt}
use Rattle.c_types.proofs.heads.each_param_refusals.Given as goal

abbrev pub invariant-loop-param : goal.invariant-loop-param
invariant-loop-param l =
    HasLookedAt l.tables l.before (map param_tree (left l.param-iterator)) l.first
    (with_refusals l.initial.first (each_param_refusals l.tables [] (listed (params_tree l.params))))
