-- Structures by their names.
use Rattle.std.specs.Prelude.{◌≡◌, ℕ, List, map, length}
use Rattle.shape_data.specs.declared.program.StructDef.{StructDef}
use Rattle.component_keys.specs.Components.{by_name}

-- the names of the structures, and their places in order of the names
pub record AreInOrder (structs : List StructDef) (names : List (List ℕ)) (order : List ℕ) : Type 0 where
  pub named : names ≡ map (λ (def : StructDef). def.name) structs
  pub sorted : order ≡ by_name names (length names)
