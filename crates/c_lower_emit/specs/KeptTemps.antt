-- What is known of temporaries as they are kept: which are used, and which is the first of each type.
use Rattle.std.specs.Prelude.{◌≡◌, ℕ, suc, ◌<◌, ◌≤◌, true, false, List, [], ◌∷◌, All, IfSome, length, take, unwrap_or, if◌then◌else◌}
use Rattle.shape_data.specs.declared.program.Ty.{Ty}
use Rattle.c_types_rules.specs.Types.{same_type}
use Rattle.c_types_names.specs.Seen.{type_seen}
use Rattle.c_lower_emit.specs.declared.type_numbers.TypeNumbers.{TypeNumbers}
use Rattle.c_lower_emit.specs.declared.temps.Temp.{Temp}
use Rattle.c_lower_emit.specs.TypeNumbers.{number_in}

-- the temporary, not used
abbrev pub unused : Temp → Temp
unused temp = record temp { used = false }

-- all of these temporaries are used
abbrev pub AreUsed : List Temp → Type 0
AreUsed temps = All (λ temp. temp.used ≡ true) temps

-- the place of the first temporary of the type, or behind all
abbrev pub first_like : Ty → List Temp → ℕ
first_like kind [] = 0
first_like kind (temp ∷ temps) = if same_type (type_seen temp.kind) kind then 0 else suc (first_like kind temps)

-- a type's number is the place of its first temporary, and a type without one has none; each temporary has the number of its type
pub record AreFirst (numbers : TypeNumbers) (temps : List Temp) : Type 0 where
  pub found : (kind : Ty) → unwrap_or (number_in numbers kind) (length temps) ≡ first_like kind temps
  pub within : (kind : Ty) → IfSome (number_in numbers kind) (λ place. place < length temps)
  pub each : All (λ temp. temp.first ≡ first_like (type_seen temp.kind) temps) temps

-- the temporaries before the place, of which there are so many, are used; and the first of each type is known
pub record IsKept (numbers : TypeNumbers) (place : ℕ) (temps : List Temp) : Type 0 where
  pub within : place ≤ length temps
  pub used : AreUsed (take place temps)
  pub first : AreFirst numbers temps
