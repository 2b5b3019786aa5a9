-- The parameters of a head, one by one.
use Rattle.std.proofs.Common.{◌≡◌, map, refl}
use Rattle.c_types_rules.specs.Tables.{Tables, param_kind, param_kinds}
use Rattle.c_types_rules.specs.Items.{listed}
use Rattle.c_tree.specs.declared.names.Params.{Params}
use Rattle.c_tree.specs.declared.names.Params.TheVariants as params
use Rattle.c_tree.specs.Params.{param_items}
use Rattle.c_tree.specs.Syntax.{param_tree, params_tree}

-- what a list of parameters has, and its tree
pub each_param : (all : Params) → listed (params_tree all) ≡ map param_tree (param_items all)
each_param params.Empty = refl
each_param (params.Void place) = refl
each_param (params.Listed list) = refl

-- and its types
pub each_kind : (tables : Tables) (all : Params)
    → param_kinds tables (params_tree all) ≡ map (param_kind tables) (map param_tree (param_items all))
each_kind tables params.Empty = refl
each_kind tables (params.Void place) = refl
each_kind tables (params.Listed list) = refl
