-- Who calls whom in a program, by the places of its procedures.
use Rattle.std.specs.Prelude.{◌≡◌, ℕ, ◌+◌, ◌<◌, nat_eq, List, length, position, drop, slice_index_or, if◌then◌else◌}
use Rattle.std.specs.Cmp.Lexicographic.{pointwise}
use Rattle.std.specs.declared.option.Option.{Option}
use Rattle.std.specs.declared.option.Option.TheVariants.{None}
use Rattle.shape_data.specs.declared.program.Cmd.{Cmd}
use Rattle.shape_data.specs.declared.program.Cmd.TheVariants as cmd
use Rattle.shape_data.specs.declared.program.Node.{Node}
use Rattle.component_keys.specs.Components.{holds}
use Rattle.component_keys.specs.Keys.{place_of}

-- the place of a name
abbrev pub number_in : List (List ℕ) → List ℕ → Option ℕ
number_in names name = position (λ (other : List ℕ). pointwise nat_eq other name) names

-- the place of the name of the procedure that a command calls
abbrev pub number_called : List (List ℕ) → Cmd → Option ℕ
number_called names (cmd.Call to callee args next) = number_in names callee
number_called names _ = None

abbrev pub called_in : List (List ℕ) → Node → Option ℕ
called_in names node = number_called names node.cmd

-- the value stands at each of the places, and elsewhere what stood there
abbrev pub ArePut : List ℕ → ℕ → List ℕ → List ℕ → Type 0
ArePut numbers value before after =
    (number : ℕ) → slice_index_or after number 0 ≡ (if holds numbers number then value else slice_index_or before number 0)

-- the place of each number's class, as far as the classes from one on tell
pub record ArePlaces (count : ℕ) (all : List (List ℕ)) (from : ℕ) (places : List ℕ) : Type 0 where
  pub lengths : length places ≡ count
  pub each : (number : ℕ) → number < count → slice_index_or places number 0 ≡ from + place_of number (drop from all)
