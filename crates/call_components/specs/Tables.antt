-- Classes by a table of who reaches whom.
use Rattle.std.specs.declared.option.Option.{Option}
use Rattle.std.specs.declared.option.Option.TheVariants.{None, Some}
use Rattle.std.specs.Prelude.{slice_get, slice_set, ◌≡◌, ℕ, ◌<◌, ◌==◌, Bool, true, ◌&&◌, ◌||◌, not, List, [], ◌∷◌, ◌++◌, map, length}
use Rattle.std.specs.Prelude.{slice_index_or}
use Rattle.std.specs.List.{filter, list_any, list_all}
use Rattle.component_keys.specs.Components.{holds, calls_of, are_mutual, is_first}
use Rattle.call_components.specs.Reaching.{marked}

-- two numbers are of one kind
abbrev pub same_kind : List ℕ → ℕ → ℕ → Bool
same_kind kinds one other = slice_index_or kinds one 0 == slice_index_or kinds other 0

-- numbers are of one kind exactly where each reaches the other
pub record AreKinds (calls : List (List ℕ)) (kinds : List ℕ) : Type 0 where
  pub lengths : length kinds ≡ length calls
  pub same : (one other : ℕ) → one < length calls → other < length calls → are_mutual calls one other ≡ same_kind kinds one other

abbrev pub class_in : List ℕ → List ℕ → ℕ → List ℕ
class_in kinds order number = filter (same_kind kinds number) order

abbrev pub classes_in : List ℕ → List ℕ → List (List ℕ)
classes_in kinds order = map (class_in kinds order) (filter (λ number. is_first number (class_in kinds order number)) order)

-- a number put into the class at a place, or a class begun with it
abbrev pub put_list : Option ℕ → ℕ → List (List ℕ) → List (List ℕ)
put_list None number lists = lists ++ (number ∷ []) ∷ []
put_list (Some place) number lists = slice_set lists place (slice_index_or lists place [] ++ number ∷ [])

-- where the class of a kind stands, if it is begun there
abbrev pub put_slot : Option ℕ → ℕ → ℕ → List (Option ℕ) → List (Option ℕ)
put_slot None kind place slots = slice_set slots kind (Some place)
put_slot (Some old) kind place slots = slots

-- no member is listed, and each that one of them calls is of its kind or listed
abbrev pub is_next_in : List ℕ → List (List ℕ) → List Bool → List ℕ → Bool
is_next_in kinds calls listed class =
    not (list_any (marked listed) class)
    && list_all (λ number. list_all (λ callee. same_kind kinds callee number || marked listed callee) (calls_of calls number)) class

-- the classes before a place are listed: each has a member that is
abbrev pub AreListed : List Bool → List (List ℕ) → ℕ → Type 0
AreListed listed classes place = (k : ℕ) → k < place → list_any (marked listed) (slice_index_or classes k []) ≡ true

-- what stands at a place that may be none
abbrev pub at_place : {A : Type 0} → List A → Option ℕ → Option A
at_place things None = None
at_place things (Some place) = slice_get things place

-- marked are those that were, and the numbers
abbrev pub AreAllMarked : List ℕ → List Bool → List Bool → Type 0
AreAllMarked numbers before after = (number : ℕ) → marked after number ≡ (marked before number || holds numbers number)
