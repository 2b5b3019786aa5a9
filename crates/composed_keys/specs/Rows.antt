-- Components by the numbers of procedures.
use Rattle.std.specs.Prelude.{◌≡◌, ℕ, ◌<◌, List, map, length, slice_get, slice_index_or, All}
use Rattle.std.specs.List.{filter, filter_map}
use Rattle.std.specs.Option.{option_map}
use Rattle.std.specs.declared.option.Option.{Option}
use Rattle.std.specs.declared.option.Option.TheVariants.{Some}
use Rattle.shape_data.specs.declared.program.Flow.{Flow}
use Rattle.composed_keys.specs.declared.rows.Component.{Component as Row}
use Rattle.composed_keys.specs.declared.rows.Outer.{Outer as OuterRow}
use Rattle.component_keys.specs.Components.{by_name, components}
use Rattle.component_keys.specs.Keys.{Component, Outer, is_outer}
use Rattle.composed_keys.specs.Programs.{ArePlaces}

-- the procedure outside of a row
abbrev pub outer_value : List Flow → OuterRow → Option Outer
outer_value flows outer =
    option_map (λ flow. record { name = flow.name; params = flow.params; component = outer.component }) (slice_get flows outer.number)

-- the component of a row
abbrev pub component_value : List Flow → Row → Component
component_value flows row =
    record { flows = filter_map (slice_get flows) row.members.items; outer = filter_map (outer_value flows) row.outer.items }

-- the numbers of a row are those of procedures, and its callees' components stand before it
pub record IsWithin (count place : ℕ) (row : Row) : Type 0 where
  pub members : All (λ number. number < count) row.members.items
  pub outer : All (λ (outer : OuterRow). outer.number < count) row.outer.items
  pub before : All (λ (outer : OuterRow). outer.component < place) row.outer.items

-- the same of each row
abbrev pub AreWithin : ℕ → List Row → Type 0
AreWithin count rows = (place : ℕ) (row : Row) → slice_get rows place ≡ Some row → IsWithin count place row

-- the row of a procedure outside, by the places of components
abbrev pub outer_row : List ℕ → ℕ → OuterRow
outer_row places number = record { number = number; component = slice_index_or places number 0 }

-- the rows of the procedures outside of a class
abbrev pub outer_in : List (List ℕ) → List ℕ → List ℕ → List ℕ → List OuterRow
outer_in calls places order class = map (outer_row places) (filter (is_outer calls class) order)

-- the rows of the components of a graph of calls, by the place of each procedure's component
pub record AreRowsOf (names calls : List (List ℕ)) (made : List Row) : Type 0 where
  pub members : map (λ (row : Row). row.members.items) made ≡ components names calls
  pub places : List ℕ
  pub placing : ArePlaces (length calls) (components names calls) 0 places
  pub outer : map (λ (row : Row). row.outer.items) made
      ≡ map (outer_in calls places (by_name names (length names))) (components names calls)
