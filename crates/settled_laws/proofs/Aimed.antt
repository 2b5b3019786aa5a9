-- What is collected of the components that an aim reaches is what is known of them, where it has the answers that keys are given.
use Rattle.std.proofs.Common.{◌≡◌, ℕ, zero, suc, ◌+◌, ◌<◌, Bool, true, false, cond, List, [], ◌∷◌, length, map, slice_get, Some, None}
use Rattle.std.proofs.Common.{Option, All}
use Rattle.std.proofs.Common.{refl, sym, ap, ◌∙◌, subst, filter, filter_map, option_map, arith}
use Rattle.std.specs.List.{range_with_len}
use Rattle.std.proofs.lemmas.Bool.{lt-ltb}
use Rattle.std.proofs.lemmas.List.Elements.{All-map}
use Rattle.std.proofs.lemmas.Option.{slice_get_within}
use Rattle.shape_data.specs.declared.answer.Answer.{Answer}
use Rattle.shape_data.specs.declared.answer.Kept.{Kept}
use Rattle.shape_data.specs.declared.answer.Key.{Key}
use Rattle.component_keys.specs.Keys.{program_components}
use Rattle.component_keys.proofs.Basics.{at_map, not_none, some_same}
use Rattle.component_keys.proofs.Reach.{range_at}
use Rattle.component_keys.proofs.Whole.{in_filter, in_filter_map}
use Rattle.claim_core.specs.Views.{Solution, solution_of}
use Rattle.claim_laws.specs.World.{World, Slot, standings}
use Rattle.claim_laws.specs.Logs.{replay, settled_at}
use Rattle.claim_laws.proofs.Invariant.{all_at}
use Rattle.summary_book.specs.declared.aims.Aim.{Aim}
use Rattle.summary_book.specs.declared.aims.Aim.TheVariants as aims
use Rattle.summary_book.specs.Aims.{aimed}
use Rattle.summary_book.specs.Next.{IsSettled, slots_by}
use Rattle.summary_book.specs.Views.{slot_solution}
use Rattle.summary_book.proofs.Components.{aims_are}
use Rattle.summary_book.proofs.Standings.{settled_of, settled_stands, standings_length, stands_at}
use Rattle.bottom_up.specs.BottomUp.{known_by}
use Rattle.bottom_up.proofs.ListPlaces.{mapped_same, within_at}
use Rattle.bottom_up.proofs.Over.{known_many}
use Rattle.settled_laws.specs.Laws.{AllAreAimed, AreGiven, CollectedAreKnown, aimed_known}
use Rattle.settled_laws.proofs.Settled.{settled_known}
use Rattle.settled_laws.proofs.Whole.{all_pass, given_mapped, taken_from}

-- ---- the numbers that pass

in_range : (from count i x : ℕ) → slice_get (range_with_len from count) i ≡ Some x → x < from + count
in_range from zero i x at = not_none at
in_range from (suc count) zero x at = let here : from ≡ x = some_same at in omega (arith, here)
in_range from (suc count) (suc i) x at = let lt = in_range (from + 1) count i x at in omega (arith, lt)

from_filter : {X : Type 0} (p : X → Bool) (xs : List X) (k : ℕ) (x : X) → slice_get (filter p xs) k ≡ Some x →
    (p x ≡ true) × ((i : ℕ) × (slice_get xs i ≡ Some x))
from_filter p [] k x at = not_none at
from_filter {X = X} p (first ∷ xs) k x at = by_test (p first) refl k at (from_filter p xs)
  where
    by_test : (b : Bool) → p first ≡ b → (j : ℕ) → slice_get (cond b (first ∷ filter p xs) (filter p xs)) j ≡ Some x →
        ((i : ℕ) (y : X) → slice_get (filter p xs) i ≡ Some y → (p y ≡ true) × ((n : ℕ) × (slice_get xs n ≡ Some y))) →
        (p x ≡ true) × ((n : ℕ) × (slice_get (first ∷ xs) n ≡ Some x))
    by_test true passes zero here again = (subst (λ y. p y ≡ true) (some_same here) passes, (zero, here))
    by_test true passes (suc j) here again = let old = again j x here in (old.0, (suc old.1.0, old.1.1))
    by_test false fails j here again = let old = again j x here in (old.0, (suc old.1.0, old.1.1))

-- a number that stands among those below a count that pass
pub passing_at : (p : ℕ → Bool) (count k x : ℕ) → slice_get (filter p (range_with_len 0 count)) k ≡ Some x → (p x ≡ true) × (x < count)
passing_at p count k x at =
    let own = from_filter p (range_with_len 0 count) k x at in
    let lt = in_range 0 count own.1.0 x own.1.1 in
    (own.0, omega (arith, lt))

-- and each number below it that passes stands there
pub passing_in : (p : ℕ → Bool) (count x : ℕ) → p x ≡ true → x < count →
    (k : ℕ) × (slice_get (filter p (range_with_len 0 count)) k ≡ Some x)
passing_in p count x passes lt =
    let here : 0 + x ≡ x = omega arith in
    in_filter p (range_with_len 0 count) x x (range_at 0 count x lt ∙ ap (λ n. Some n) here) passes

-- ---- an aim

module _ (answer_of : Key → Answer) (world : World) (aim : Aim) (settled : IsSettled world (aimed world.program aim)) (kept : List Kept)
    (same : map solution_of kept ≡ map slot_solution (slots_by world (aimed world.program aim))) (all_given : AreGiven answer_of kept) where
  abbrev known : List Solution
  known = known_by answer_of world.program

  abbrev reached : List ℕ
  reached = filter (aimed world.program aim) (range_with_len 0 (length (standings world)))

  abbrev IsGiven : Solution → Type 0
  IsGiven one = one.answer ≡ answer_of one.key

  -- the slots are given their answers, since they are what is collected
  slots_given : All IsGiven (map slot_solution (slots_by world (aimed world.program aim)))
  slots_given = subst (All IsGiven) same (All-map IsGiven solution_of kept all_given)

  slot_given : (component : ℕ) (slot : Slot) → aimed world.program aim component ≡ true → settled_at world component ≡ Some slot →
      slot.answer ≡ answer_of slot.key
  slot_given component slot reaches at =
      let own = settled_stands world component slot at in
      let place =
      passing_in (aimed world.program aim) (length (standings world)) component reaches
      (slice_get_within (standings world) component own.0 own.1) in
      let there = in_filter_map (settled_at world) reached place.0 component slot place.1 at in
      all_at IsGiven (map slot_solution (slots_by world (aimed world.program aim))) there.0 (slot_solution slot) slots_given
      (at_map slot_solution (slots_by world (aimed world.program aim)) there.0 ∙ ap (option_map slot_solution) there.1)

  -- a component that is reached is known by its slot
  slot_known : (place : ℕ) → aimed world.program aim place ≡ true → place < length (program_components world.program) →
      option_map slot_solution (settled_at world place) ≡ slice_get known place
  slot_known place reaches lt = by_slot (settled_at world place) refl
    where
      by_slot : (o : Option Slot) → settled_at world place ≡ o → option_map slot_solution o ≡ slice_get known place
      by_slot None e =
          let there = within_at (program_components world.program) place lt in
          let own = stands_at world place there.0 there.1 in
          absurd (settled place reaches
          (record { standing = own.standing; at = own.at; settled = sym (settled_of world place own.standing own.at) ∙ e }))
      by_slot (Some slot) e =
          sym (settled_known answer_of world (aimed world.program aim) (aims_are world aim) slot_given place slot reaches e)

  slots_known : map slot_solution (slots_by world (aimed world.program aim)) ≡ aimed_known answer_of world.program aim
  slots_known =
      let places : List ℕ = filter (aimed world.program aim) (range_with_len 0 (length (program_components world.program))) in
      ap (λ n. map slot_solution (filter_map (settled_at world) (filter (aimed world.program aim) (range_with_len 0 n))))
      (standings_length world) ∙
      given_mapped slot_solution (settled_at world) places ∙
      mapped_same (λ place. option_map slot_solution (settled_at world place)) (slice_get known) places places refl
      (λ i place other at at_same.
      let own = passing_at (aimed world.program aim) (length (program_components world.program)) i place at in
      slot_known place own.0 own.1 ∙ ap (slice_get known) (some_same (sym at ∙ at_same)))

pub collected_are_known : (solves : Key → Answer → Type 0) → CollectedAreKnown solves
collected_are_known solves answer_of log legal aim settled kept same all_given =
    same ∙ slots_known answer_of (replay log) aim settled kept same all_given

pub all_are_aimed : AllAreAimed
all_are_aimed answer_of program =
    let known : List Solution = known_by answer_of program in
    ap (filter_map (slice_get known))
    (all_pass (aimed program aims.All) 0 (length (program_components program)) (λ k lt. lt-ltb _ _ (omega (arith, lt)))) ∙
    ap (λ n. filter_map (slice_get known) (range_with_len 0 n)) (sym (known_many answer_of program)) ∙
    taken_from (slice_get known) known 0 (λ k lt. let same : 0 + k ≡ k = omega arith in ap (slice_get known) same)
