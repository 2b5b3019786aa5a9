-- Whom components call outside of themselves, by who calls each procedure.
use Rattle.std.specs.Prelude.{◌≡◌, ℕ, ◌<◌, ◌-◌, ◌==◌, Bool, false, ◌&&◌, ◌||◌, not, List, [], ◌∷◌, ◌++◌, map, length, All, if◌then◌else◌}
use Rattle.std.specs.Prelude.{slice_get, slice_index_or}
use Rattle.std.specs.List.{list_any}
use Rattle.std.specs.declared.option.Option.{Option}
use Rattle.std.specs.declared.option.Option.TheVariants.{None, Some}
use Rattle.component_keys.specs.Components.{calls_of, holds}
use Rattle.composed_keys.specs.declared.rows.Component.{Component as Row}
use Rattle.composed_keys.specs.declared.rows.Outer.{Outer as OuterRow}

-- the caller stands at each of these callees besides those that stood there
abbrev pub AreNoted : List ℕ → ℕ → List (List ℕ) → List (List ℕ) → Type 0
AreNoted callees caller before after = (other callee : ℕ)
    → holds (calls_of after callee) other ≡ (holds (calls_of before callee) other || ((caller == other) && holds callees callee))

-- those who call a procedure are those of whose callees it is
abbrev pub AreCallers : List (List ℕ) → List (List ℕ) → Type 0
AreCallers calls callers = (caller callee : ℕ) → holds (calls_of callers callee) caller ≡ holds (calls_of calls caller) callee

-- the procedures outside, row by row
abbrev pub outers : List Row → List (List OuterRow)
outers made = map (λ row. row.outer.items) made

-- the last of the procedures outside has the number
abbrev pub is_number : ℕ → Option OuterRow → Bool
is_number number None = false
is_number number (Some outer) = outer.number == number

abbrev pub is_last : ℕ → List OuterRow → Bool
is_last number list = is_number number (slice_get list (length list - 1))

-- a procedure put behind, unless it is the last
abbrev pub noted_once : List OuterRow → OuterRow → List OuterRow
noted_once list outer = if is_last outer.number list then list else list ++ outer ∷ []

-- the number is the last of no row
abbrev pub AreAhead : ℕ → List Row → Type 0
AreAhead number made = (place : ℕ) → is_last number (slice_index_or (outers made) place []) ≡ false

-- one of the callers is of the component at a place, and that is not the procedure's own one
abbrev pub calls_from : List ℕ → List ℕ → ℕ → ℕ → Bool
calls_from places callers own place = list_any (λ caller. slice_index_or places caller 0 == place) callers && not (own == place)

-- a procedure stands behind those of the components of its callers, and elsewhere nothing is changed
abbrev pub ArePutBy : List ℕ → List ℕ → OuterRow → List (List OuterRow) → List (List OuterRow) → Type 0
ArePutBy places callers outer before now =
    (place : ℕ) → slice_index_or now place []
    ≡ (if calls_from places callers outer.component place then slice_index_or before place [] ++ outer ∷ []
    else slice_index_or before place [])

-- each procedure's place is that of the one class that holds it
pub record ArePlaced (all : List (List ℕ)) (count : ℕ) (places : List ℕ) : Type 0 where
  pub lengths : length places ≡ count
  pub within : All (λ place. place < length all) places
  pub own : (number place : ℕ) → number < count → place < length all
      → holds (slice_index_or all place []) number ≡ (slice_index_or places number 0 == place)
