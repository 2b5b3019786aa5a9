-- At least as many answers were published as components are settled: each has a slot of its own.
use Rattle.std.proofs.Common.{◌≡◌, ℕ, zero, suc, ◌+◌, ◌<◌, ◌≤◌, Bool, true, false, cond, List, [], ◌∷◌, length, slice_get, Some, None}
use Rattle.std.proofs.Common.{Option}
use Rattle.std.proofs.Common.{refl, sym, ◌∙◌, filter, filter_map, arith}
use Rattle.std.specs.List.{AllByRecursion, IsDistinct, cons_option, range_with_len}
use Rattle.std.specs.Prelude.{nat_eq}
use Rattle.std.specs.Set.{is_member}
use Rattle.std.proofs.lemmas.Cmp.{nat_eq_equiv}
use Rattle.std.proofs.lemmas.Bool.Decides.{Decides-eqb}
use Rattle.std.proofs.lemmas.List.Sums.{length-filter}
use Rattle.std.proofs.lemmas.Map.Made.{length-le_from_is_member}
use Rattle.component_keys.specs.Components.{same_names}
use Rattle.component_keys.specs.Keys.{names_of, program_components}
use Rattle.component_keys.proofs.Apart.{names_same}
use Rattle.component_keys.proofs.Basics.{found}
use Rattle.component_keys.proofs.Ordered.{some_passes}
use Rattle.component_keys.proofs.Reach.{any_passes}
use Rattle.component_keys.proofs.Whole.{in_filter_map}
use Rattle.claim_laws.specs.World.{World, Event, Slot, slot_of}
use Rattle.claim_laws.specs.Logs.{replay, settled_at}
use Rattle.claim_laws.proofs.Core.{slots_were_published}
use Rattle.claim_laws.proofs.Steps.{settled_slot}
use Rattle.claim_laws.proofs.Still.{part_at, standings_known}
use Rattle.summary_book.specs.declared.aims.Aim.{Aim}
use Rattle.summary_book.specs.Aims.{aimed}
use Rattle.summary_book.specs.Next.{IsSettled}
use Rattle.summary_book.specs.Rows.{place_named}
use Rattle.summary_book.proofs.Standings.{own_place, settled_of, stands_at}
use Rattle.bottom_up.proofs.ListPlaces.{within_at}
use Rattle.settled_laws.specs.Laws.{SettledWerePublished}
use Rattle.settled_laws.proofs.Aimed.{passing_at}

-- ---- numbers that pass differ

-- each is at least the first
none_before : (p : ℕ → Bool) (low from count : ℕ) → low < from →
    AllByRecursion (λ x. nat_eq low x ≡ false) (filter p (range_with_len from count))
none_before p low from zero lt = tt
none_before p low from (suc count) lt = by_test (p from) (none_before p low (from + 1) count (omega (arith, lt)))
  where
    differs : (b : Bool) → nat_eq low from ≡ b → b ≡ false
    differs false e = refl
    differs true e = let same : low ≡ from = (Decides-eqb low from).0 e in absurd (omega (arith, lt, same))

    by_test : (b : Bool) → AllByRecursion (λ x. nat_eq low x ≡ false) (filter p (range_with_len (from + 1) count)) →
        AllByRecursion (λ x. nat_eq low x ≡ false)
        (cond b (from ∷ filter p (range_with_len (from + 1) count)) (filter p (range_with_len (from + 1) count)))
    by_test true again = (differs (nat_eq low from) refl, again)
    by_test false again = again

all_differ : (p : ℕ → Bool) (from count : ℕ) → IsDistinct nat_eq (filter p (range_with_len from count))
unfolding IsDistinct
all_differ p from zero = tt
all_differ p from (suc count) = by_test (p from) (none_before p from (from + 1) count (omega arith)) (all_differ p (from + 1) count)
  where
    by_test : (b : Bool) → AllByRecursion (λ x. nat_eq from x ≡ false) (filter p (range_with_len (from + 1) count)) →
        IsDistinct nat_eq (filter p (range_with_len (from + 1) count)) →
        IsDistinct nat_eq (cond b (from ∷ filter p (range_with_len (from + 1) count)) (filter p (range_with_len (from + 1) count)))
    by_test true others again = (others, again)
    by_test false others again = again

-- what is made of some is no more
given_few : {X Y : Type 0} (f : X → Option Y) (xs : List X) → length (filter_map f xs) ≤ length xs
given_few f [] = omega arith
given_few {Y = Y} f (x ∷ xs) = by_option (f x) (given_few f xs)
  where
    by_option : (o : Option Y) → length (filter_map f xs) ≤ length xs → length (cons_option o (filter_map f xs)) ≤ length (x ∷ xs)
    by_option None again = omega (arith, again)
    by_option (Some y) again = omega (arith, again)

-- ---- slots

module _ (log : List Event) (aim : Aim) (settled : IsSettled (replay log) (aimed (replay log).program aim)) where
  abbrev world : World
  world = replay log

  abbrev count : ℕ
  count = length (program_components world.program)

  abbrev aims : List ℕ
  aims = filter (aimed world.program aim) (range_with_len 0 count)

  -- the components whose slots there are
  abbrev slotted : List ℕ
  slotted = filter_map (λ (slot : Slot). place_named (program_components world.program) slot.members) world.slots

  -- a component that the aim reaches has a slot
  has_slot : (place : ℕ) → aimed world.program aim place ≡ true → place < count → (j : ℕ) × (slice_get slotted j ≡ Some place)
  has_slot place reached lt = by_slot (settled_at world place) refl
    where
      by_slot : (o : Option Slot) → settled_at world place ≡ o → (j : ℕ) × (slice_get slotted j ≡ Some place)
      by_slot None e =
          let there = within_at (program_components world.program) place lt in
          let own = stands_at world place there.0 there.1 in
          absurd (settled place reached
          (record { standing = own.standing; at = own.at; settled = sym (settled_of world place own.standing own.at) ∙ e }))
      by_slot (Some slot) e =
          let there = within_at (program_components world.program) place lt in
          let own = stands_at world place there.0 there.1 in
          let is = standings_known world place own.standing own.at in
          let here : slot_of world.slots (names_of own.standing.part.flows) ≡ Some slot =
          settled_slot (slot_of world.slots (names_of own.standing.part.flows)) own.standing.due slot
          (sym is.settled ∙ sym (settled_of world place own.standing own.at) ∙ e) in
          let at = found (λ (one : Slot). same_names one.members (names_of own.standing.part.flows)) world.slots slot here in
          let members : slot.members ≡ names_of own.standing.part.flows =
          (names_same slot.members (names_of own.standing.part.flows)).0 at.0 in
          in_filter_map (λ (one : Slot). place_named (program_components world.program) one.members) world.slots at.1.0 slot place at.1.1
          (own_place world.program place own.standing.part slot.members (part_at world place own.standing own.at) (sym members))

  each_slotted : (q : ℕ) → is_member nat_eq aims q ≡ true → is_member nat_eq slotted q ≡ true
  each_slotted q member =
      let there = some_passes (nat_eq q) aims member in
      let own = passing_at (aimed world.program aim) count there.0 there.1 there.2 in
      let slot = has_slot there.1 own.0 own.1 in
      any_passes (nat_eq q) slotted slot.0 there.1 slot.1 there.3

  as_many : length aims ≤ length world.slots
  as_many =
      let few = length-le_from_is_member nat_eq_equiv aims slotted (all_differ (aimed world.program aim) 0 count) each_slotted in
      let given = given_few (λ (slot : Slot). place_named (program_components world.program) slot.members) world.slots in
      omega (arith, few, given)

pub settled_were_published : SettledWerePublished
settled_were_published log aim settled =
    let few = as_many log aim settled in
    let slots = slots_were_published log in
    let same = length-filter (aimed (replay log).program aim) (range_with_len 0 (length (program_components (replay log).program))) in
    omega (arith, few, slots, same)
