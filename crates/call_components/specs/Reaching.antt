-- How marks of what is reached grow.
use Rattle.std.specs.Prelude.{◌≡◌, ℕ, ◌+◌, ◌<◌, Bool, true, false, ◌&&◌, ◌||◌, not, List, [], ◌∷◌, map, length, slice_index_or, cond, suc}
use Rattle.std.specs.Prelude.{◌⊎◌}
use Rattle.std.specs.Global.{Vec}
use Rattle.component_keys.specs.Components.{holds, calls_of, reached_from}

-- the lists of a list of vectors
abbrev pub rows : {A : Type 0} → List (Vec A) → List (List A)
rows vectors = map (λ row. row.items) vectors

-- the mark of a number; what is outside is not marked
abbrev pub marked : List Bool → ℕ → Bool
marked marks number = slice_index_or marks number false

-- how many are not marked
abbrev pub unmarked : List Bool → ℕ
unmarked [] = 0
unmarked (mark ∷ marks) = cond mark (unmarked marks) (suc (unmarked marks))

-- each of the row is marked, and those that were not are still to do
pub record AreMarked (row : List ℕ) (marks : List Bool) (todo : List ℕ) (new_marks : List Bool) (new_todo : List ℕ) : Type 0 where
  pub lengths : length new_marks ≡ length marks
  pub marks_are : (number : ℕ) → marked new_marks number ≡ (marked marks number || holds row number)
  pub todo_is : (number : ℕ) → holds new_todo number ≡ (holds todo number || (holds row number && not (marked marks number)))
  pub left : unmarked new_marks + length new_todo ≡ unmarked marks + length todo

-- all that is marked is reached, and whom one calls that is marked and not still to do is marked
pub record IsReaching (calls : List (List ℕ)) (starts : List ℕ) (marks : List Bool) (todo : List ℕ) : Type 0 where
  pub lengths : length marks ≡ length calls
  pub below : (number : ℕ) → holds todo number ≡ true → number < length calls
  pub within : (number : ℕ) → marked marks number ≡ true → holds (reached_from calls starts) number ≡ true
  pub start : (number : ℕ) → holds starts number ≡ true → marked marks number ≡ true
  pub todo_marked : (number : ℕ) → holds todo number ≡ true → marked marks number ≡ true
  pub closed : (one callee : ℕ) → marked marks one ≡ true → holds (calls_of calls one) callee ≡ true
      → (marked marks callee ≡ true) ⊎ (holds todo one ≡ true)

-- whoever is called is defined
abbrev pub AreDefined : List (List ℕ) → Type 0
AreDefined calls = (number callee : ℕ) → holds (calls_of calls number) callee ≡ true → callee < length calls

-- the marks of what is reached
abbrev pub AreReached : List (List ℕ) → List ℕ → List Bool → Type 0
AreReached calls starts marks = (number : ℕ) → marked marks number ≡ holds (reached_from calls starts) number
