-- Which classes may be listed: each that is not listed waits for one at a time of those that it calls outside of itself, as a clause
-- watches one of its literals (Zhang and Stickel 1996).
use Rattle.std.specs.Prelude.{◌≡◌, ℕ, ◌<◌, ◌≤◌, Bool, true, false, not, List, map, length, ◌⊎◌}
use Rattle.std.specs.List.{filter, flat_map, list_any}
use Rattle.std.specs.BinaryHeap.{heap_items}
use Rattle.std.specs.declared.option.Option.{Option}
use Rattle.std.specs.declared.option.Option.TheVariants.{None, Some}
use Rattle.component_keys.specs.Components.{holds, calls_of}
use Rattle.call_components.specs.Reaching.{marked, rows}
use Rattle.call_components.specs.Tables.{same_kind}
use Rattle.call_components.specs.declared.places.Places.{Places}
use Rattle.call_components.specs.declared.waiting.Waiting.{Waiting}

-- the places that are kept
abbrev pub places_in : Places → List ℕ
places_in places = map (λ place. place.0) (heap_items places.heap)

-- whom a number calls of another kind
abbrev pub calls_outside : List ℕ → List (List ℕ) → ℕ → List ℕ
calls_outside kinds calls number = filter (λ callee. not (same_kind kinds callee number)) (calls_of calls number)

-- whom a class calls outside of itself
abbrev pub outside_of : List ℕ → List (List ℕ) → List ℕ → List ℕ
outside_of kinds calls class = flat_map (calls_outside kinds calls) class

-- a member of the class at a place is listed
abbrev pub is_listed : List Bool → List (List ℕ) → ℕ → Bool
is_listed marks all place = list_any (marked marks) (calls_of all place)

-- the later row is the earlier one without some that are listed
pub record AreNeeded (marks : List Bool) (before after : List ℕ) : Type 0 where
  pub own : (number : ℕ) → holds after number ≡ true → holds before number ≡ true
  pub kept : (number : ℕ) → holds before number ≡ true → (marked marks number ≡ true) ⊎ (holds after number ≡ true)

-- a class is listed, is ready, is still to be looked at, or waits for a number that is not listed or whose classes are still to be woken
pub data IsHeld (all : List (List ℕ)) (marks : List Bool) (wakes rest : List ℕ) (needs waits : List (List ℕ)) (ready : List ℕ)
    (place : ℕ) : Type 0 where
  IsListed : is_listed marks all place ≡ true → IsHeld all marks wakes rest needs waits ready place
  IsReady : holds ready place ≡ true → IsHeld all marks wakes rest needs waits ready place
  IsLeft : holds rest place ≡ true → IsHeld all marks wakes rest needs waits ready place
  IsWaiting : (number : ℕ) → holds (calls_of needs place) number ≡ true → holds (calls_of waits number) place ≡ true →
      (marked marks number ≡ false) ⊎ (holds wakes number ≡ true) →
      IsHeld all marks wakes rest needs waits ready place

-- each class is held; whom it calls outside is listed or needed, and once it is ready all of them are listed
pub record AreHeld (all outs : List (List ℕ)) (marks : List Bool) (wakes rest : List ℕ) (needs waits : List (List ℕ))
    (ready : List ℕ) : Type 0 where
  pub own : (place number : ℕ) → holds (calls_of needs place) number ≡ true → holds (calls_of outs place) number ≡ true
  pub needed : (place number : ℕ) → holds (calls_of outs place) number ≡ true →
      (marked marks number ≡ true) ⊎ (holds (calls_of needs place) number ≡ true)
  pub listed : (place number : ℕ) → holds ready place ≡ true → holds (calls_of outs place) number ≡ true → marked marks number ≡ true
  pub each : (place : ℕ) → place < length all → IsHeld all marks wakes rest needs waits ready place

abbrev pub AreWaiting : List (List ℕ) → List (List ℕ) → List Bool → List ℕ → List ℕ → Waiting → Type 0
AreWaiting all outs marks wakes rest state =
    AreHeld all outs marks wakes rest (rows state.needs.items) (rows state.waits.items) (places_in state.ready)

-- there is a row for each class and for each number, and what stands in them is within these
pub record IsBounded (classes numbers : ℕ) (state : Waiting) : Type 0 where
  pub classes_are : length state.needs.items ≡ classes
  pub numbers_are : length state.waits.items ≡ numbers
  pub needs : (place number : ℕ) → holds (calls_of (rows state.needs.items) place) number ≡ true → number < numbers
  pub waits : (number place : ℕ) → holds (calls_of (rows state.waits.items) number) place ≡ true → place < classes
  pub ready : (place : ℕ) → holds (places_in state.ready) place ≡ true → place < classes

-- the first place that is kept and whose class is not listed was taken, and before it some whose classes are listed
pub record IsTaken (marks : List Bool) (all : List (List ℕ)) (before after : List ℕ) (first : ℕ) : Type 0 where
  pub there : holds before first ≡ true
  pub fresh : is_listed marks all first ≡ false
  pub least : (place : ℕ) → holds before place ≡ true → (is_listed marks all place ≡ true) ⊎ (first ≤ place)
  pub own : (place : ℕ) → holds after place ≡ true → holds before place ≡ true
  pub kept : (place : ℕ) → holds before place ≡ true → (is_listed marks all place ≡ true) ⊎ ((place ≡ first) ⊎ (holds after place ≡ true))

-- or all are listed
abbrev pub IsFirst : List Bool → List (List ℕ) → List ℕ → List ℕ → Option ℕ → Type 0
IsFirst marks all before after None = (place : ℕ) → holds before place ≡ true → is_listed marks all place ≡ true
IsFirst marks all before after (Some first) = IsTaken marks all before after first
