-- One turn of expose, and what comes of it.
use Rattle.std.specs.Prelude.{ℕ, if◌then◌else◌, List, [], ◌∷◌, position}
use Rattle.std.specs.List.{list_any}
use Rattle.std.specs.declared.option.Option.{Option}
use Rattle.std.specs.declared.option.Option.TheVariants.{None, Some}
use Rattle.sym_canon.specs.declared.parts.Pair.{Pair}
use Rattle.sym_canon.specs.Placing.{is_cell_at, is_segment_from}
use Rattle.exec_laws.specs.declared.parts.Exposed.{Exposed}
use Rattle.exec_laws.specs.declared.parts.Exposed.TheVariants.{Shown}
use Rattle.exec_laws.specs.Exposing.{at_segment}
use Rattle.exec_laws.specs.Pairs.{Setting, atoms_of, in_slot}
use Rattle.exec_cells.specs.declared.exposing.Turn.{Turn}
use Rattle.exec_cells.specs.declared.exposing.Turn.TheVariants.{Again, Last}
use Rattle.exec_cells.specs.Sizes.{IsLowPair}

-- one turn, with what further turns do
abbrev pub turn_of : (Pair → List Exposed) → Setting → List ℕ → ℕ → Pair → List Exposed
turn_of again setting kind slot pair =
    if list_any (is_cell_at (in_slot pair slot)) (atoms_of pair)
    then Shown pair ∷ []
    else at_segment again setting kind (in_slot pair slot) pair (position (is_segment_from (in_slot pair slot)) (atoms_of pair))

-- the cases after a turn: those of further turns, or the last ones
abbrev pub cases_after : (Pair → List Exposed) → Turn → List Exposed
cases_after again (Again pair) = again pair
cases_after again (Last cases) = cases.items

-- where there is a further turn, it is of a pair with low variables
abbrev pub IsLowTurn : Turn → Type 0
IsLowTurn (Again pair) = IsLowPair pair
IsLowTurn (Last cases) = Unit {0}

-- the case that there is, if there is one
abbrev pub listed : Option Exposed → List Exposed
listed None = []
listed (Some case) = case ∷ []
