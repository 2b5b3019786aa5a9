-- New numbers for variables, apart from those in use: each gets its own, the least existential ones that are free.
use Rattle.std.specs.Prelude.{ℕ, List, length}
use Rattle.sym_matching.specs.NewVariables.{at_its_place, distinct, fresh_variables}
use Rattle.sym_matching.specs.declared.renaming.parts.Numbers.{Numbers}

-- the new number of a variable
abbrev pub number_of : Numbers → ℕ → ℕ
number_of apart x = at_its_place apart.variables apart.numbers x

-- new numbers for different variables
abbrev pub numbers_for : List ℕ → List ℕ → Numbers
numbers_for used variables = record { variables = variables; numbers = fresh_variables (length variables) used }

-- new numbers for variables: existential ones, the least that are not in use, in the order in which the variables stand first
abbrev pub numbers_apart : List ℕ → List ℕ → Numbers
numbers_apart used variables = numbers_for used (distinct variables)
