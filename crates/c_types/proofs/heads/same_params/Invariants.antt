use Rattle.std.proofs.Common.{◌≡◌, map}
use Rattle.c_types_rules.specs.Tables.{param_kind, param_kinds}
use Rattle.c_types_rules.specs.Items.{same_kinds}
use Rattle.c_tree.specs.NonEmpty.{left}
use Rattle.c_tree.specs.Syntax.{param_tree, params_tree}
use Rattle.c_types.proofs.heads.same_params.Given as goal

abbrev pub invariant-loop-one : goal.invariant-loop-one
invariant-loop-one l =
    same_kinds (map (param_kind l.tables) (map param_tree (left l.one-iterator)))
    (map (param_kind l.tables) (map param_tree (left l.left)))
    ≡ same_kinds (param_kinds l.tables (params_tree l.ones)) (param_kinds l.tables (params_tree l.others))
