-- New existential variables: the least numbers that are not in use; and such numbers for variables.
use Rattle.std.specs.Prelude.{ℕ, zero, suc, ◌+◌, ◌<◌, ◌==◌, if◌then◌else◌, List, [], ◌∷◌, ◌++◌, length, All}
use Rattle.sym_parts.specs.Laws.Fresh.{is_one_of}

-- the least number from x on that is not in use. Each turn passes over a number in use, so as many turns as there are such
-- numbers are enough
abbrev pub first_free : ℕ → ℕ → List ℕ → ℕ
first_free zero x used = x
first_free (suc turns) x used = if is_one_of used x then first_free turns (x + 1) used else x

-- the least existential variable that is not in use
abbrev pub fresh : List ℕ → ℕ
fresh used = first_free (length used) 65536 used

-- so many new existential variables, each the least that is then not in use
abbrev pub fresh_variables : ℕ → List ℕ → List ℕ
fresh_variables zero used = []
fresh_variables (suc count) used = fresh used ∷ fresh_variables count (used ++ fresh used ∷ [])

-- that many more new variables have 32-bit numbers
abbrev pub HasRoom : ℕ → List ℕ → Type 0
HasRoom count used = All (λ x. x < 4294967296) (fresh_variables count used)

-- a variable behind others, unless it is one of them
abbrev pub with_new : List ℕ → ℕ → List ℕ
with_new names x = if is_one_of names x then names else names ++ x ∷ []

-- variables behind others, each once, where it stands first
abbrev pub distinct_behind : List ℕ → List ℕ → List ℕ
distinct_behind names [] = names
distinct_behind names (x ∷ xs) = distinct_behind (with_new names x) xs

-- each variable once, where it stands first
abbrev pub distinct : List ℕ → List ℕ
distinct xs = distinct_behind [] xs

-- what stands in the second list where the variable stands in the first; a variable that does not keeps its number
abbrev pub at_its_place : List ℕ → List ℕ → ℕ → ℕ
at_its_place [] numbers x = x
at_its_place (variable ∷ variables) [] x = x
at_its_place (variable ∷ variables) (number ∷ numbers) x = if x == variable then number else at_its_place variables numbers x

-- a new number for each of the variables: an existential one, the least that is not in use, in the order in which they stand first; any
-- other
-- variable keeps its number
abbrev pub number_apart : List ℕ → List ℕ → ℕ → ℕ
number_apart used variables x = at_its_place (distinct variables) (fresh_variables (length (distinct variables)) used) x
