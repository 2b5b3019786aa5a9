-- The parameters, in the order of the text.
use Rattle.std.specs.Prelude.{List, []}
use Rattle.c_tree.specs.declared.names.Param.{Param}
use Rattle.c_tree.specs.declared.names.Params.{Params}
use Rattle.c_tree.specs.declared.names.Params.TheVariants as params
use Rattle.c_tree.specs.NonEmpty.{items}

abbrev pub param_items : Params → List Param
param_items params.Empty = []
param_items (params.Void place) = []
param_items (params.Listed list) = items list
