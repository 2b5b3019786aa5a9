-- Structures by their places.
use Rattle.std.specs.Prelude.{◌≡◌, ℕ, List, ◌++◌}
use Rattle.std.specs.Option.{option_to_list}
use Rattle.std.specs.declared.option.Option.{Option}
use Rattle.shape_data.specs.declared.program.StructDef.{StructDef}
use Rattle.call_components.specs.Reaching.{rows}
use Rattle.component_keys.specs.Structures.{pointed_rows, struct_numbers}
use Rattle.composed_keys.specs.StructureOrder.{AreInOrder}
use Rattle.composed_keys.specs.declared.rows.Structures.{Structures}

-- whom the fields of each structure point to, and the structures' names with their order
pub record AreStructures (structs : List StructDef) (table : Structures) : Type 0 where
  pub pointed : rows table.pointed.items ≡ pointed_rows structs
  pub ordered : AreInOrder structs table.names.items table.order.items

-- the place of the structure that may be named is put behind
abbrev pub noted : List StructDef → List ℕ → Option (List ℕ) → List ℕ
noted structs numbers name = numbers ++ struct_numbers structs (option_to_list name)
