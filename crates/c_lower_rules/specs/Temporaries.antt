-- The temporaries of a procedure, in the order in which they were first needed.
use Rattle.std.specs.Prelude.{ℕ, suc, Bool, true, false, ◌&&◌, not, List, [], ◌∷◌, map, if◌then◌else◌}
use Rattle.shape_data.specs.declared.program.Ty.{Ty}
use Rattle.c_types_rules.specs.Types.{same_type}

-- a temporary: its type, and whether the statement or condition at hand has used it
pub record Temp : Type 0 where
  pub kind : Ty
  pub used : Bool

-- the temporary, not used by what begins
abbrev pub released_one : Temp → Temp
released_one temp = record temp { used = false }

-- where a statement or a condition begins, none is used
abbrev pub released : List Temp → List Temp
released temps = map released_one temps

-- a temporary that a value takes, by its place among them, and the temporaries then
pub record Taken : Type 0 where
  pub place : ℕ
  pub temps : List Temp

-- what was taken of those behind a first one, among all
abbrev pub behind_temp : Temp → Taken → Taken
behind_temp first taken = record { place = suc taken.place; temps = first ∷ taken.temps }

-- a value of the type may take the temporary
abbrev pub is_free : Ty → Temp → Bool
is_free kind temp = same_type temp.kind kind && not temp.used

-- the first of the type that is not used, or else a new one
abbrev pub take_temp : Ty → List Temp → Taken
take_temp kind [] = record { place = 0; temps = record { kind = kind; used = true } ∷ [] }
take_temp kind (first ∷ others) =
    if is_free kind first
    then record { place = 0; temps = record first { used = true } ∷ others }
    else behind_temp first (take_temp kind others)
