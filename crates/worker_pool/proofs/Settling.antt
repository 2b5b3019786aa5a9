-- No more components are settled than answers were published: different components have different slots.
use Rattle.std.proofs.Common.{◌≡◌, ◌+◌, ◌≤◌, ℕ, zero, suc, Bool, true, false, not, cond, List, [], ◌∷◌, length, map, Some, None}
use Rattle.std.proofs.Common.{Option, refl, sym, ap, ◌∙◌, subst, arith}
use Rattle.std.proofs.lemmas.List.{length-map}
use Rattle.std.specs.List.{cons_option, filter, filter_map, find, range_with_len}
use Rattle.shape_data.specs.declared.answer.Kept.{Kept}
use Rattle.component_keys.specs.Components.{same_names}
use Rattle.component_keys.specs.Keys.{names_of}
use Rattle.component_keys.proofs.Apart.{names_same}
use Rattle.component_keys.proofs.Basics.{filter_less, found, found_kept, not_none}
use Rattle.claim_laws.specs.World.{Event, Slot, Standing, World, but, slot_of, standings, standing_at}
use Rattle.claim_laws.specs.Logs.{published, replay, settled_at}
use Rattle.claim_laws.proofs.Core.{slots_were_published}
use Rattle.claim_laws.proofs.Steps.{settled_slot}
use Rattle.claim_laws.proofs.Still.{standings_apart, standings_known}
use Rattle.summary_book.specs.Next.{slots_by}
use Rattle.summary_book.specs.Views.{slot_solution}
use Rattle.claim_core.specs.Views.{solution_of}
use Rattle.summary_book.proofs.Standings.{settled_stands}

-- ---- lists

-- one that is found is taken away with those like it
found_fewer : {X : Type 0} (p : X → Bool) (xs : List X) (x : X) → find p xs ≡ Some x → suc (length (filter (λ y. not (p y)) xs)) ≤ length xs
found_fewer p [] x e = not_none e
found_fewer {X = X} p (first ∷ xs) x e = by_test (p first) e (found_fewer p xs x) (filter_less (λ y. not (p y)) xs)
  where
    by_test : (b : Bool) → cond b (Some first) (find p xs) ≡ Some x →
        (find p xs ≡ Some x → suc (length (filter (λ y. not (p y)) xs)) ≤ length xs) → length (filter (λ y. not (p y)) xs) ≤ length xs →
        suc (length (cond (not b) (first ∷ filter (λ y. not (p y)) xs) (filter (λ y. not (p y)) xs))) ≤ suc (length xs)
    by_test true f again less = omega (arith, less)
    by_test false f again less = let rest : suc (length (filter (λ y. not (p y)) xs)) ≤ length xs = again f in omega (arith, rest)

-- fewer come of fewer
mapped_fewer : {X Y : Type 0} (f : X → Option Y) (p : X → Bool) (xs : List X) →
    length (filter_map f (filter p xs)) ≤ length (filter_map f xs)
mapped_fewer f p [] = omega arith
mapped_fewer {X = X} {Y = Y} f p (x ∷ xs) = by_test (p x) (f x) refl (mapped_fewer f p xs)
  where
    by_test : (b : Bool) (o : Option Y) → f x ≡ o → length (filter_map f (filter p xs)) ≤ length (filter_map f xs) →
        length (filter_map f (cond b (x ∷ filter p xs) (filter p xs))) ≤ length (cons_option o (filter_map f xs))
    by_test true None e le = subst (λ o. length (cons_option o (filter_map f (filter p xs))) ≤ length (filter_map f xs)) (sym e) le
    by_test true (Some y) e le = subst (λ o. length (cons_option o (filter_map f (filter p xs))) ≤ suc (length (filter_map f xs)))
        (sym e) (let more : suc (length (filter_map f (filter p xs))) ≤ suc (length (filter_map f xs)) = omega (arith, le) in more)
    by_test false None e le = le
    by_test false (Some y) e le = omega (arith, le)

-- ---- slots

-- from a number on, each has a slot of its own in the list
record HaveSlots (slot_at : ℕ → Option Slot) (slots : List Slot) (from : ℕ) : Type 0 where
  own : (number : ℕ) (slot : Slot) → from ≤ number → slot_at number ≡ Some slot → slot_of slots slot.members ≡ Some slot
  apart : (number other : ℕ) (one its : Slot) → slot_at number ≡ Some one → slot_at other ≡ Some its → one.members ≡ its.members →
      number ≡ other

later_slots : (slot_at : ℕ → Option Slot) (slots : List Slot) (from : ℕ) → HaveSlots slot_at slots from → HaveSlots slot_at slots (from + 1)
later_slots slot_at slots from have = record { own = λ number slot le at. have.own number slot (omega (arith, le)) at; apart = have.apart }

other_slots : (slot_at : ℕ → Option Slot) (slots : List Slot) (from : ℕ) (slot : Slot) → HaveSlots slot_at slots from →
    slot_at from ≡ Some slot → HaveSlots slot_at (but slots slot.members) (from + 1)
other_slots slot_at slots from slot have here = record { own = own; apart = have.apart }
  where
    own : (number : ℕ) (other : Slot) → from + 1 ≤ number → slot_at number ≡ Some other →
        slot_of (but slots slot.members) other.members ≡ Some other
    own number other le at =
        found_kept (λ (one : Slot). same_names one.members other.members) (λ (one : Slot). not (same_names one.members slot.members)) slots
        (λ one same. by_test one same (same_names one.members slot.members) refl) ∙
        have.own number other (omega (arith, le)) at
      where
        by_test : (one : Slot) → same_names one.members other.members ≡ true → (b : Bool) → same_names one.members slot.members ≡ b →
            not b ≡ true
        by_test one same false e = refl
        by_test one same true e =
            let both : other.members ≡ slot.members = sym ((names_same one.members other.members).0 same) ∙
            (names_same one.members slot.members).0 e in
            let never : number ≡ from = have.apart number from other slot at here both in
            absurd (omega (arith, never, le))

settled_most : (slot_at : ℕ → Option Slot) (count from : ℕ) (slots : List Slot) → HaveSlots slot_at slots from →
    length (filter_map slot_at (range_with_len from count)) ≤ length slots
settled_most slot_at zero from slots have = omega arith
settled_most slot_at (suc count) from slots have = by_slot (slot_at from) refl (λ less. settled_most slot_at count (from + 1) less)
  where
    by_slot : (o : Option Slot) → slot_at from ≡ o →
        ((less : List Slot) → HaveSlots slot_at less (from + 1) →
        length (filter_map slot_at (range_with_len (from + 1) count)) ≤ length less) →
        length (cons_option o (filter_map slot_at (range_with_len (from + 1) count))) ≤ length slots
    by_slot None e again = again slots (later_slots slot_at slots from have)
    by_slot (Some slot) e again =
        let rest : length (filter_map slot_at (range_with_len (from + 1) count)) ≤ length (but slots slot.members) =
        again (but slots slot.members) (other_slots slot_at slots from slot have e) in
        let fewer : suc (length (but slots slot.members)) ≤ length slots =
        found_fewer (λ (one : Slot). same_names one.members slot.members) slots slot (have.own from slot (omega arith) e) in
        omega (arith, rest, fewer)

-- ---- worlds

module _ (world : World) where
  -- a settled component's slot is its own
  slot_stands : (component : ℕ) (slot : Slot) → settled_at world component ≡ Some slot →
      (standing : Standing) × (standing_at world component ≡ Some standing) ×
      (slot_of world.slots (names_of standing.part.flows) ≡ Some slot) × (slot.members ≡ names_of standing.part.flows)
  slot_stands component slot e =
      let one = settled_stands world component slot e in
      let standing : Standing = one.0 in
      let known = standings_known world component standing one.1 in
      let own : slot_of world.slots (names_of standing.part.flows) ≡ Some slot =
      settled_slot (slot_of world.slots (names_of standing.part.flows)) standing.due slot (sym known.settled ∙ one.2) in
      let same = found (λ (its : Slot). same_names its.members (names_of standing.part.flows)) world.slots slot own in
      (standing, one.1, own, (names_same slot.members (names_of standing.part.flows)).0 same.0)

  have_slots : HaveSlots (settled_at world) world.slots 0
  have_slots = record {
    own = λ component slot le e. let one = slot_stands component slot e in
        subst (λ members. slot_of world.slots members ≡ Some slot) (sym one.3) one.2;
    apart = λ component other slot its e f same.
        let one = slot_stands component slot e in
        let two = slot_stands other its f in
        standings_apart world component other one.0 two.0 one.1 two.1 (sym one.3 ∙ same ∙ two.3);
  }

  slots_few : (aim : ℕ → Bool) → length (slots_by world aim) ≤ length world.slots
  slots_few aim =
      let all : List ℕ = range_with_len 0 (length (standings world)) in
      let fewer : length (slots_by world aim) ≤ length (filter_map (settled_at world) all) = mapped_fewer (settled_at world) aim all in
      let few : length (filter_map (settled_at world) all) ≤ length world.slots =
      settled_most (settled_at world) (length (standings world)) 0 world.slots have_slots in
      omega (arith, fewer, few)

pub settled_few : (log : List Event) (aim : ℕ → Bool) → length (slots_by (replay log) aim) ≤ published log
settled_few log aim = let few = slots_few (replay log) aim in let all = slots_were_published log in omega (arith, few, all)

-- so no more entries are collected
pub entries_few : (log : List Event) (aim : ℕ → Bool) (kept : List Kept) →
    map solution_of kept ≡ map slot_solution (slots_by (replay log) aim) → length kept ≤ published log
entries_few log aim kept are =
    let few = settled_few log aim in
    let one : length (map solution_of kept) ≡ length kept = length-map kept solution_of in
    let other : length (map slot_solution (slots_by (replay log) aim)) ≡ length (slots_by (replay log) aim) =
    length-map (slots_by (replay log) aim) slot_solution in
    let same : length (map solution_of kept) ≡ length (map slot_solution (slots_by (replay log) aim)) = ap length are in
    omega (arith, few, one, other, same)
