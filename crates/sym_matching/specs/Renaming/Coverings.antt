-- A state with new numbers for its existential variables, apart from those in use: what a covering's match takes out of another state.
use Rattle.std.specs.Prelude.{ℕ, List}
use Rattle.shape_data.specs.declared.symbolic.SymState.{SymState}
use Rattle.sym_parts.specs.Laws.Mapped.{on_state, renamed}
use Rattle.sym_matching.specs.Covers.{existentials}
use Rattle.sym_matching.specs.declared.renaming.parts.Numbers.{Numbers}
use Rattle.sym_matching.specs.Renaming.Apart.{number_of, numbers_apart}

-- new numbers for the existential variables of a state
abbrev pub state_numbers : List ℕ → SymState → Numbers
state_numbers used state = numbers_apart used (existentials state)

-- the state in these numbers
abbrev pub state_apart : List ℕ → SymState → SymState
state_apart used state = on_state (renamed (number_of (state_numbers used state))) state
