-- What a search for classes keeps (Gabow 2000; Purdom and Munro 1968): the open numbers stand on a stack, in sets that call one another
-- and of which each reaches the next one; whom a class that is done calls is of it or of one done before.
use Rattle.std.specs.Prelude.{◌≡◌, ◌≢◌, ℕ, ◌<◌, ◌≤◌, ◌+◌, true, List, [], ◌∷◌, ◌++◌, length, slice_get, slice_index_or, drop, ◌⊎◌}
use Rattle.std.specs.Prelude.{if◌then◌else◌}
use Rattle.std.specs.declared.option.Option.TheVariants.{Some}
use Rattle.component_keys.specs.Components.{holds, calls_of, reached}
use Rattle.call_components.specs.declared.marks.Entry.{Entry}
use Rattle.call_components.specs.declared.marks.Mark.{Mark}
use Rattle.call_components.specs.declared.marks.Mark.TheVariants.{New, Open, Done}
use Rattle.call_components.specs.declared.marks.Search.{Search}

abbrev pub mark_of : List Mark → ℕ → Mark
mark_of marks number = slice_index_or marks number New

-- the one calls the other, directly or not
abbrev pub Reaches : List (List ℕ) → ℕ → ℕ → Type 0
Reaches calls one other = holds (reached calls one) other ≡ true

-- whom a number of a set calls is done, open in it or behind it, or to follow
pub data IsSeen (marks : List Mark) (entry : Entry) (todo : List ℕ) (callee : ℕ) : Type 0 where
  IsDone : (class : ℕ) → mark_of marks callee ≡ Done class → IsSeen marks entry todo callee
  IsOpen : (place : ℕ) → mark_of marks callee ≡ Open place → entry.first ≤ place → IsSeen marks entry todo callee
  IsToDo : (turn : ℕ) → entry.todo ≤ turn → slice_get todo turn ≡ Some callee → IsSeen marks entry todo callee

-- a call to follow is one of a number of the set whose calls it stands among
pub record IsCalled (calls : List (List ℕ)) (stack : List ℕ) (entries : List Entry) (turn callee : ℕ) : Type 0 where
  pub place : ℕ
  pub caller : ℕ
  pub at : slice_get stack place ≡ Some caller
  pub call : holds (calls_of calls caller) callee ≡ true
  pub above : (i : ℕ) (entry : Entry) → slice_get entries i ≡ Some entry → entry.todo ≤ turn → entry.first ≤ place
  pub below : (i : ℕ) (entry : Entry) → slice_get entries i ≡ Some entry → turn < entry.todo → place < entry.first

pub record IsSearching (calls : List (List ℕ)) (marks : List Mark) (stack : List ℕ) (entries : List Entry) (todo : List ℕ)
    (count : ℕ) : Type 0 where
  pub lengths : length marks ≡ length calls
  pub numbers : (place number : ℕ) → slice_get stack place ≡ Some number → number < length calls
  pub callees : (turn number : ℕ) → slice_get todo turn ≡ Some number → number < length calls
  pub opened : (place number : ℕ) → slice_get stack place ≡ Some number → mark_of marks number ≡ Open place
  pub stacked : (place number : ℕ) → mark_of marks number ≡ Open place → slice_get stack place ≡ Some number
  pub rising : (i j : ℕ) (entry later : Entry) → i < j → slice_get entries i ≡ Some entry → slice_get entries j ≡ Some later →
      (entry.first < later.first) × (entry.todo ≤ later.todo)
  pub within : (i : ℕ) (entry : Entry) → slice_get entries i ≡ Some entry → (entry.first < length stack) × (entry.todo ≤ length todo)
  pub bottom : 0 < length stack → (entry : Entry) × (slice_get entries 0 ≡ Some entry) × (entry.first ≡ 0)
  pub edges : (i place number callee : ℕ) (entry : Entry) → slice_get entries i ≡ Some entry → entry.first ≤ place →
      slice_get stack place ≡ Some number → holds (calls_of calls number) callee ≡ true → IsSeen marks entry todo callee
  pub reach : (one other number reached_number : ℕ) → slice_get stack one ≡ Some number → slice_get stack other ≡ Some reached_number →
      ((i : ℕ) (entry : Entry) → slice_get entries i ≡ Some entry → entry.first ≤ one → entry.first ≤ other) →
      Reaches calls number reached_number
  pub called : (turn callee : ℕ) → slice_get todo turn ≡ Some callee → IsCalled calls stack entries turn callee
  pub closed : (number callee class : ℕ) → mark_of marks number ≡ Done class → holds (calls_of calls number) callee ≡ true →
      (other : ℕ) × (mark_of marks callee ≡ Done other) × (other ≤ class)
  pub classes : (number other class : ℕ) → mark_of marks number ≡ Done class → mark_of marks other ≡ Done class → Reaches calls number other
  pub counted : (number class : ℕ) → mark_of marks number ≡ Done class → class < count

abbrev pub IsSearch : List (List ℕ) → Search → Type 0
IsSearch calls search =
    IsSearching calls search.marks.items search.stack.items search.entries.items search.todo.items (length search.done.items)

-- the sets that begin behind a place are put together with the one that holds it
pub record AreMerged (place : ℕ) (entries kept : List Entry) : Type 0 where
  pub own : (i : ℕ) (entry : Entry) → slice_get kept i ≡ Some entry → slice_get entries i ≡ Some entry
  pub low : (i : ℕ) (entry : Entry) → slice_get kept i ≡ Some entry → entry.first ≤ place
  pub high : (i : ℕ) (entry : Entry) → slice_get entries i ≡ Some entry → (slice_get kept i ≡ Some entry) ⊎ (place < entry.first)

-- the numbers of the set that begins at a place get the class, and all else stays
abbrev pub AreClassed : ℕ → ℕ → List ℕ → List Mark → List Mark → Type 0
AreClassed first class stack before after =
    (number : ℕ) → mark_of after number ≡ (if holds (drop first stack) number then Done class else mark_of before number)

-- what is still to be done: for each number that was not met, itself and its calls
abbrev pub work : List (List ℕ) → List Mark → ℕ
work [] marks = 0
work (row ∷ rows) [] = 0
work (row ∷ rows) (New ∷ marks) = length row + 2 + work rows marks
work (row ∷ rows) (_ ∷ marks) = work rows marks

-- the work left, the calls to follow and the sets of open numbers
abbrev pub work_left : List (List ℕ) → Search → ℕ
work_left calls search = work calls search.marks.items + length search.todo.items + length search.entries.items

-- no number is forgotten
abbrev pub AreMet : List Mark → List Mark → Type 0
AreMet before after = (number : ℕ) → mark_of after number ≡ New → mark_of before number ≡ New

-- sets begin one behind the other
abbrev pub AreRising : List Entry → Type 0
AreRising entries = (i j : ℕ) (entry later : Entry) → i < j → slice_get entries i ≡ Some entry → slice_get entries j ≡ Some later →
    entry.first < later.first

-- the last set
abbrev pub IsLast : List Entry → Entry → Type 0
IsLast entries top = (before : List Entry) × (entries ≡ before ++ top ∷ [])

-- the kind that a mark tells
abbrev pub kind_of_mark : Mark → ℕ
kind_of_mark New = 0
kind_of_mark (Open place) = 0
kind_of_mark (Done class) = class

-- all numbers are searched
pub record IsSearched (calls : List (List ℕ)) (state : Search) : Type 0 where
  pub search : IsSearch calls state
  pub closed : state.entries.items ≡ []
  pub met : (number : ℕ) → number < length calls → mark_of state.marks.items number ≢ New
