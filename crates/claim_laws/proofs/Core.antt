-- What holds of claims after every legal log.
use Rattle.std.proofs.Common.{◌≡◌, ℕ, suc, ◌+◌, ◌≤◌, ◌==◌, nat_lt, Bool, true, false, cond, List, [], ◌∷◌, ◌++◌, length, Some, None, Option}
use Rattle.std.proofs.Common.{refl, sym, ap, ◌∙◌, subst, ⊎_elim, arith, All, le_refl}
use Rattle.std.proofs.lemmas.Bool.Decides.{Decides-eqb}
use Rattle.std.proofs.lemmas.List.Elements.{All-nil, All-filter}
use Rattle.shape_data.specs.declared.answer.Answer.{Answer}
use Rattle.shape_data.specs.declared.answer.Key.{Key}
use Rattle.component_keys.specs.Keys.{names_of, is_recursive}
use Rattle.component_keys.specs.Components.{same_names}
use Rattle.component_keys.specs.Tests.{key_test}
use Rattle.claim_laws.specs.World.{World, Event, Slot, Out, slot_of, settled_by, out_of, put_slot, but, slot_for, is_present, slots_with}
use Rattle.claim_laws.specs.World.{happened, after}
use Rattle.claim_laws.specs.Logs.{replay_from, replay, first_world, IsSolved, AreLegal, published}
use Rattle.claim_laws.specs.Claims.{SlotsSolve, SlotsWerePublished, ClaimedOnce, ClaimedWhereNew, ClaimedArePresent}
use Rattle.component_keys.proofs.Basics.{filter_less, not_none, found}
use Rattle.claim_laws.proofs.Still.{standings_known, part_at}
use Rattle.claim_laws.proofs.Steps.{by_may}
use Rattle.claim_laws.proofs.Once.{legal_behind, legal_front, IsHeld, after_is, claim_needs, held_through, claimed_held, held_excludes}
use Rattle.claim_laws.specs.Invariant.{IsWorld, IsOwnSlot, IsComposed, IsGoodOut}
use Rattle.claim_laws.proofs.Invariant.{all_at, All-put, replayed_world}

-- ---- each slot's answer solves its key

module _ (solves : Key → Answer → Type 0) where
  abbrev Solves : Slot → Type 0
  Solves slot = solves slot.key slot.answer

  solved_with : (slots : List Slot) (kept : Bool) (answer : Answer) (o : Option Out) →
      ((claim : Out) → o ≡ Some claim → solves claim.key answer) → All Solves slots →
      All Solves (slots_with slots kept answer o)
  solved_with slots kept answer None solved all = all
  solved_with slots false answer (Some claim) solved all = all
  solved_with slots true answer (Some claim) solved all =
      All-put Solves (slot_for claim answer) (but slots (names_of claim.key.procs)) (solved claim refl) (All-filter _ Solves slots all)

  solved_happened : (world : World) (event : Event) → IsSolved solves world event → All Solves world.slots →
      All Solves (happened world event).slots
  solved_happened world (Event.Revise revision program) solved all = All-filter (is_present program) Solves world.slots all
  solved_happened world (Event.Claim number worker component key) solved all = all
  solved_happened world (Event.Publish number answer kept) solved all =
      solved_with world.slots kept answer (out_of world.out number) solved all
  solved_happened world (Event.GiveBack number) solved all = all

  solved_from : (world : World) (log : List Event) → AreLegal solves world log → All Solves world.slots →
      All Solves (replay_from world log).slots
  solved_from world [] legal all = all
  solved_from world (event ∷ others) legal all =
      solved_from (after world event) others legal.2
      (by_may world event (λ new. All Solves new.slots) (λ may. solved_happened world event legal.1 all) all)

pub slots_solve : (solves : Key → Answer → Type 0) → SlotsSolve solves
slots_solve solves log legal = solved_from solves first_world log legal (All-nil _)

-- ---- at most as many slots as answers

length-put : (slot : Slot) (slots : List Slot) → length (put_slot slot slots) ≡ suc (length slots)
length-put slot [] = refl
length-put slot (first ∷ others) = by_test (nat_lt slot.claim first.claim) (length-put slot others)
  where
    by_test : (b : Bool) → length (put_slot slot others) ≡ suc (length others) →
        length (cond b (slot ∷ first ∷ others) (first ∷ put_slot slot others)) ≡ suc (suc (length others))
    by_test true again = refl
    by_test false again = ap (λ n. suc n) again

slots_with_more : (slots : List Slot) (kept : Bool) (answer : Answer) (o : Option Out) →
    length (slots_with slots kept answer o) ≤ length slots + 1
slots_with_more slots kept answer None = omega arith
slots_with_more slots false answer (Some claim) = omega arith
slots_with_more slots true answer (Some claim) =
    let less : length (but slots (names_of claim.key.procs)) ≤ length slots = filter_less _ slots in
    rw (length-put (slot_for claim answer) (but slots (names_of claim.key.procs))) (omega (arith, less))

published_from : (world : World) (log : List Event) → length (replay_from world log).slots ≤ length world.slots + published log
published_from world [] = omega arith
published_from world (Event.Revise revision program ∷ others) =
    let one : length (after world (Event.Revise revision program)).slots ≤ length world.slots =
    by_may world (Event.Revise revision program) (λ new. length new.slots ≤ length world.slots)
    (λ may. filter_less (is_present program) world.slots) (le_refl _) in
    let rest : length (replay_from (after world (Event.Revise revision program)) others).slots
    ≤ length (after world (Event.Revise revision program)).slots + published others =
    published_from (after world (Event.Revise revision program)) others in
    omega (arith, one, rest)
published_from world (Event.Claim number worker component key ∷ others) =
    let event : Event = Event.Claim number worker component key in
    let one : length (after world event).slots ≤ length world.slots =
    by_may world event (λ new. length new.slots ≤ length world.slots) (λ may. le_refl _) (le_refl _) in
    let rest : length (replay_from (after world event) others).slots ≤ length (after world event).slots + published others =
    published_from (after world event) others in
    omega (arith, one, rest)
published_from world (Event.Publish number answer kept ∷ others) =
    let event : Event = Event.Publish number answer kept in
    let one : length (after world event).slots ≤ length world.slots + 1 =
    by_may world event (λ new. length new.slots ≤ length world.slots + 1)
    (λ may. slots_with_more world.slots kept answer (out_of world.out number)) (omega arith) in
    let rest : length (replay_from (after world event) others).slots ≤ length (after world event).slots + published others =
    published_from (after world event) others in
    omega (arith, one, rest)
published_from world (Event.GiveBack number ∷ others) =
    let event : Event = Event.GiveBack number in
    let one : length (after world event).slots ≤ length world.slots =
    by_may world event (λ new. length new.slots ≤ length world.slots) (λ may. le_refl _) (le_refl _) in
    let rest : length (replay_from (after world event) others).slots ≤ length (after world event).slots + published others =
    published_from (after world event) others in
    omega (arith, one, rest)

pub slots_were_published : SlotsWerePublished
slots_were_published log = let all : length (replay log).slots ≤ 0 + published log = published_from first_world log in omega (arith, all)

-- ---- claimed once

-- a number that was never made is not outstanding
not_made : (world : World) (number : ℕ) → IsWorld world → number ≡ world.made + 1 → out_of world.out number ≡ None
not_made world number inv e = by_found (out_of world.out number) refl
  where
    by_found : (o : Option Out) → out_of world.out number ≡ o → o ≡ None
    by_found None f = refl
    by_found (Some claim) f =
        let there = found (λ one. one.number == number) world.out claim f in
        let same : claim.number ≡ number = (Decides-eqb claim.number number).0 there.0 in
        let made : claim.number ≤ world.made = (all_at (IsGoodOut world) world.out there.1.0 claim inv.out there.1.1).number in
        absurd (omega (arith, same, made, e))

pub claimed_once : (solves : Key → Answer → Type 0) → ClaimedOnce solves
claimed_once solves before middle rest first second one_worker other_worker component one other legal none =
    let world : World = replay before in
    let claim : Event = Event.Claim first one_worker component one in
    let tail =
    legal_behind solves first_world before (claim ∷ (middle ++ (Event.Claim second other_worker component other ∷ rest))) legal in
    let behind = legal_behind solves (after world claim) middle (Event.Claim second other_worker component other ∷ rest) tail.2 in
    let middle_legal = legal_front solves (after world claim) middle (Event.Claim second other_worker component other ∷ rest) tail.2 in
    let held = subst (λ new. IsHeld new first component) (sym (after_is world claim tail.0))
    (claimed_held world first one_worker component one tail.0
    (not_made world first (replayed_world before) (claim_needs world first one_worker component one tail.0).number_is)) in
    ⊎_elim (λ given. given)
    (λ later. absurd (held_excludes (replay_from (after world claim) middle) first second other_worker component other later behind.0))
    (held_through solves (after world claim) middle first component none middle_legal held)

-- ---- claimed only where something is new

pub claimed_are_present : (solves : Key → Answer → Type 0) → ClaimedArePresent solves
claimed_are_present solves before rest number worker component key legal =
    let world : World = replay before in
    let tail = legal_behind solves first_world before (Event.Claim number worker component key ∷ rest) legal in
    let needs = claim_needs world number worker component key tail.0 in
    let known = (standings_known world component needs.standing needs.at).due key needs.due in
    (needs.standing.part, part_at world component needs.standing needs.at, ap (λ k. k.procs) known.1)

same_keys : (one other : Key) → IsComposed one → IsComposed other → one.procs ≡ other.procs → one.structs ≡ other.structs →
    one.callees ≡ other.callees → one ≡ other
same_keys one other h k procs structs callees =
    let one_is : one.recursive ≡ is_recursive one.procs = ap (λ key. key.recursive) h.3 ∙ ap (λ key. is_recursive key.procs) (sym h.3) in
    let other_is : other.recursive ≡ is_recursive other.procs =
    ap (λ key. key.recursive) k.3 ∙ ap (λ key. is_recursive key.procs) (sym k.3) in
    let recursive : one.recursive ≡ other.recursive = one_is ∙ ap is_recursive procs ∙ sym other_is in
    λ i. record { recursive = recursive i; procs = procs i; structs = structs i; callees = callees i }

unsettled_differs : (slot : Slot) (key : Key) → settled_by (Some slot) (Some key) ≡ None → slot.key ≡ key → ⊥
unsettled_differs slot key e same = not_none (sym e ∙ ap (λ b. cond b (Some slot) None) ((key_test.1 slot.key key).1 same))

pub claimed_where_new : (solves : Key → Answer → Type 0) → ClaimedWhereNew solves
claimed_where_new solves before rest number worker component key slot legal is_slot procs structs callees =
    let world : World = replay before in
    let tail = legal_behind solves first_world before (Event.Claim number worker component key ∷ rest) legal in
    let needs = claim_needs world number worker component key tail.0 in
    let facts = standings_known world component needs.standing needs.at in
    let known = facts.due key needs.due in
    let names : names_of key.procs ≡ names_of needs.standing.part.flows = ap (λ k. names_of k.procs) known.1 in
    let there = found (λ one. same_names one.members (names_of key.procs)) world.slots slot is_slot in
    let own = all_at (IsOwnSlot world.made) world.slots there.1.0 slot (replayed_world before).slots there.1.1 in
    let unsettled : settled_by (Some slot) (Some key) ≡ None =
    sym (ap (λ o. settled_by o (Some key)) (ap (slot_of world.slots) (sym names) ∙ is_slot))
    ∙ sym (ap (settled_by (slot_of world.slots (names_of needs.standing.part.flows))) needs.due) ∙
    sym facts.settled ∙ needs.settled in
    unsettled_differs slot key unsettled
    (same_keys slot.key key own.composed (world.program.structs, needs.standing.part.flows, known.0, known.1) procs structs callees)
