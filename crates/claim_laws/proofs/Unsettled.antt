-- The component of an outstanding claim of the present revision is unsettled.
use Rattle.std.proofs.Common.{◌≡◌, ◌≢◌, ℕ, zero, suc, ◌+◌, ◌==◌, Bool, true, false, cond, not, List, [], ◌∷◌, slice_get, Some, None, Option}
use Rattle.std.proofs.Common.{refl, sym, ap, ◌∙◌, subst, ⊎_elim, ◌⊎◌, inl, inr, filter, arith, AllPairs, true≢false}
use Rattle.std.proofs.lemmas.Bool.{cases_lt}
use Rattle.std.proofs.lemmas.Bool.Decides.{Decides-eqb}
use Rattle.std.proofs.lemmas.Option.{get_or_from_slice_get, slice_get_within}
use Rattle.shape_data.specs.declared.answer.Answer.{Answer}
use Rattle.shape_data.specs.declared.answer.Key.{Key}
use Rattle.component_keys.specs.Components.{same_names}
use Rattle.component_keys.specs.Keys.{names_of}
use Rattle.component_keys.specs.Tests.{key_test, program_test}
use Rattle.claim_laws.specs.World.{standing_named, is_kept, is_kept_outcome, outcome_at, World, Event, Slot, Out, Standing, slot_of}
use Rattle.claim_laws.specs.World.{settled_in, settled_by, standings, standing_at, out_of, put_slot, but, slot_for, may_happen, slots_with}
use Rattle.claim_laws.specs.World.{happened, after}
use Rattle.claim_laws.specs.Logs.{replay_from, replay, first_world, settled_at}
use Rattle.component_keys.proofs.Basics.{is_found, both_true, not_true, not_none, some_same, found, at_push, zipped_at}
use Rattle.component_keys.proofs.Apart.{names_same}
use Rattle.claim_laws.proofs.Still.{standings_apart, IsStill, IsStanding, standings_known}
use Rattle.claim_laws.proofs.Steps.{by_may, happened_still, slot_of_other, slot_of_same}
use Rattle.claim_laws.proofs.Once.{kept_where_due, claim_needs}
use Rattle.claim_laws.specs.Invariant.{IsWorld, IsGoodOut, HaveOtherKeys, IsDueAt}
use Rattle.claim_laws.proofs.Invariant.{replayed_world, all_at, after_world, first_is}

-- each claim of the present revision is for an unsettled component
abbrev pub AreUnsettled : World → Type 0
AreUnsettled world = (k : ℕ) (claim : Out) → slice_get world.out k ≡ Some claim → claim.revision ≡ world.revision →
    settled_at world claim.component ≡ None

from_filter : {X : Type 0} (p : X → Bool) (xs : List X) (k : ℕ) (x : X) → slice_get (filter p xs) k ≡ Some x →
    (p x ≡ true) × ((j : ℕ) × (slice_get xs j ≡ Some x))
from_filter p [] k x e = not_none e
from_filter {X = X} p (first ∷ xs) k x e = by_test (p first) refl k e (λ n. from_filter p xs n x)
  where
    by_test : (b : Bool) → p first ≡ b → (n : ℕ) → slice_get (cond b (first ∷ filter p xs) (filter p xs)) n ≡ Some x →
        ((m : ℕ) → slice_get (filter p xs) m ≡ Some x → (p x ≡ true) × ((j : ℕ) × (slice_get xs j ≡ Some x))) →
        (p x ≡ true) × ((j : ℕ) × (slice_get (first ∷ xs) j ≡ Some x))
    by_test false t n at again = let old = again n at in (old.0, (suc old.1.0, old.1.1))
    by_test true t zero at again = (subst (λ y. p y ≡ true) (some_same at) t, (0, at))
    by_test true t (suc n) at again = let old = again n at in (old.0, (suc old.1.0, old.1.1))

-- claims of different numbers have different keys
keys_differ : (out : List Out) → AllPairs HaveOtherKeys out → (i j : ℕ) (one other : Out) → slice_get out i ≡ Some one →
    slice_get out j ≡ Some other → one.number ≢ other.number → one.key ≢ other.key
keys_differ out apart i j one other at_i at_j numbers same =
    let within_i = slice_get_within out i one at_i in
    let within_j = slice_get_within out j other at_j in
    let is_one = get_or_from_slice_get out i one one at_i in
    let is_other = get_or_from_slice_get out j other one at_j in
    ⊎_elim
    (λ lt. apart i j one lt within_j (ap (λ c. c.key) is_one ∙ same ∙ ap (λ c. c.key) (sym is_other)))
    (λ ge. ⊎_elim (λ lt. apart j i one lt within_i (ap (λ c. c.key) is_other ∙ sym same ∙ ap (λ c. c.key) (sym is_one)))
    (λ le. let same_place : i ≡ j = omega (arith, ge, le) in
    numbers (ap (λ c. c.number) (some_same (sym at_i ∙ ap (λ k. slice_get out k) same_place ∙ at_j))))
    (cases_lt j i))
    (cases_lt i j)

-- a slot for another key does not settle
unsettled_by : (slot : Slot) (key : Key) → slot.key ≢ key → settled_by (Some slot) (Some key) ≡ None
unsettled_by slot key differ = by_test (key_test.0 slot.key key) refl
  where
    by_test : (b : Bool) → key_test.0 slot.key key ≡ b → cond b (Some slot) None ≡ None
    by_test false e = refl
    by_test true e = absurd (differ ((key_test.1 slot.key key).0 e))

-- the slot of a component after an answer is that before, or one for the claim's key
slot_after : (slots : List Slot) (kept : Bool) (answer : Answer) (o : Option Out) (names : List (List ℕ)) →
    (slot_of (slots_with slots kept answer o) names ≡ slot_of slots names)
    ⊎ ((claim : Out) × (o ≡ Some claim) × (slot_of (slots_with slots kept answer o) names ≡ Some (slot_for claim answer)))
slot_after slots kept answer None names = inl refl
slot_after slots false answer (Some claim) names = inl refl
slot_after slots true answer (Some claim) names = by_test (same_names (names_of claim.key.procs) names) refl
  where
    by_test : (b : Bool) → same_names (names_of claim.key.procs) names ≡ b →
        (slot_of (put_slot (slot_for claim answer) (but slots (names_of claim.key.procs))) names ≡ slot_of slots names) ⊎
        ((c : Out) × (Some claim ≡ Some c)
        × (slot_of (put_slot (slot_for claim answer) (but slots (names_of claim.key.procs))) names ≡ Some (slot_for c answer)))
    by_test false e = inl (slot_of_other (slot_for claim answer) slots names e)
    by_test true e =
        inr (
          claim,
          refl,
          ap (slot_of (put_slot (slot_for claim answer) (but slots (names_of claim.key.procs))))
              (sym ((names_same (names_of claim.key.procs) names).0 e)) ∙ slot_of_same (slot_for claim answer) slots,
        )

unsettled_published : (world : World) (number : ℕ) (answer : Answer) (kept : Bool) →
    may_happen world (Event.Publish number answer kept) ≡ true → IsWorld world → AreUnsettled world →
    AreUnsettled (happened world (Event.Publish number answer kept))
unsettled_published world number answer kept may inv old k claim at present =
    ap settled_in later.1
    ∙ (facts.settled ∙ by_slot (slot_after world.slots kept answer (out_of world.out number) (names_of later.0.part.flows)))
  where
    event : Event
    event = Event.Publish number answer kept

    from : (not (claim.number == number) ≡ true) × ((j : ℕ) × (slice_get world.out j ≡ Some claim))
    from = from_filter (λ one. not (one.number == number)) world.out k claim at

    due : IsDueAt world claim.component claim.key
    due = (all_at (IsGoodOut world) world.out from.1.0 claim inv.out from.1.1).due present

    later : (standing : Standing) × (standing_at (happened world event) claim.component ≡ Some standing) × IsStill due.standing standing
    later =
        zipped_at IsStill (standings world) (standings (happened world event)) claim.component due.standing
        (happened_still world event tt may) due.at

    facts : IsStanding world.program.structs (happened world event).slots later.0
    facts = standings_known (happened world event) claim.component later.0 later.1

    was_none : due.standing.settled ≡ None
    was_none = ap settled_in (sym due.at) ∙ old from.1.0 claim from.1.1 present

    still_due : later.0.due ≡ Some claim.key
    still_due = later.2.due claim.key due.due

    by_slot : (slot_of (happened world event).slots (names_of later.0.part.flows) ≡ slot_of world.slots (names_of later.0.part.flows)) ⊎
        ((other : Out) × (out_of world.out number ≡ Some other)
        × (slot_of (happened world event).slots (names_of later.0.part.flows) ≡ Some (slot_for other answer))) →
        settled_by (slot_of (happened world event).slots (names_of later.0.part.flows)) later.0.due ≡ None
    by_slot (inl same) =
        ap (λ o. settled_by o later.0.due) (same ∙ ap (λ part. slot_of world.slots (names_of part.flows)) later.2.part) ∙
        ap (settled_by (slot_of world.slots (names_of due.standing.part.flows))) (still_due ∙ sym due.due) ∙
        sym (standings_known world claim.component due.standing due.at).settled ∙ was_none
    by_slot (inr put) =
        let there = found (λ one. one.number == number) world.out put.0 put.1 in
        let other : put.0.number ≢ claim.number = λ same.
        let t : (claim.number == number) ≡ true =
        (Decides-eqb claim.number number).1 (sym same ∙ (Decides-eqb put.0.number number).0 there.0) in
        true≢false (sym t ∙ not_true (claim.number == number) from.0) in
        ap (λ o. settled_by o later.0.due) put.2 ∙ ap (settled_by (Some (slot_for put.0 answer))) still_due ∙
        unsettled_by (slot_for put.0 answer) claim.key
        (keys_differ world.out inv.different there.1.0 from.1.0 put.0 claim there.1.1 from.1.1 other)

unsettled_happened : (world : World) (event : Event) → may_happen world event ≡ true → IsWorld world → AreUnsettled world →
    AreUnsettled (happened world event)
unsettled_happened world (Event.Revise revision program) may inv old = λ k claim at present.
    let next : revision ≡ world.revision + 1 =
    (Decides-eqb revision (world.revision + 1)).0 (both_true (not (program_test.0 program world.program)) _ may).1 in
    let before = (all_at (IsGoodOut world) world.out k claim inv.out at).revision in
    absurd (omega (arith, next, before, present))
unsettled_happened world (Event.Claim number worker component key) may inv old = λ k claim at present.
    ⊎_elim (λ before. old k claim before present)
    (λ end. let needs = claim_needs world number worker component key may in
    ap (λ c. settled_at world c.component) end.1 ∙ (ap settled_in needs.at ∙ needs.settled))
    (at_push world.out _ k claim at)
unsettled_happened world (Event.Publish number answer kept) may inv old = unsettled_published world number answer kept may inv old
unsettled_happened world (Event.GiveBack number) may inv old = λ k claim at present.
    let from = from_filter (λ one. not (one.number == number)) world.out k claim at in old from.1.0 claim from.1.1 present

unsettled_from : (world : World) (log : List Event) → IsWorld world → AreUnsettled world → AreUnsettled (replay_from world log)
unsettled_from world [] inv old = old
unsettled_from world (event ∷ others) inv old =
    unsettled_from (after world event) others (after_world world event inv)
    (by_may world event AreUnsettled (λ may. unsettled_happened world event may inv old) old)

pub replayed_unsettled : (log : List Event) → AreUnsettled (replay log)
replayed_unsettled log = unsettled_from first_world log first_is (λ k claim at present. not_none at)

-- the component that a due key names is the one that is due it
pub named_due : (world : World) (component : ℕ) (key : Key) (due : IsDueAt world component key) →
    standing_named world (names_of key.procs) ≡ Some due.standing
named_due world component key due =
    let known = (standings_known world component due.standing due.at).due key due.due in
    let own : names_of key.procs ≡ names_of due.standing.part.flows = ap (λ k. names_of k.procs) known.1 in
    let one = is_found (λ s. same_names (names_of s.part.flows) (names_of key.procs)) (standings world) component due.standing due.at
    ((names_same (names_of due.standing.part.flows) (names_of key.procs)).1 (sym own)) in
    let there = found (λ s. same_names (names_of s.part.flows) (names_of key.procs)) (standings world) one.0 one.1 in
    let place : there.1.0 ≡ component = standings_apart world there.1.0 component one.0 due.standing there.1.1 due.at
    ((names_same (names_of one.0.part.flows) (names_of key.procs)).0 there.0 ∙ own) in
    one.1 ∙ (sym there.1.1 ∙ ap (λ k. slice_get (standings world) k) place ∙ due.at)

-- an answer to a claim of the present revision is kept
pub present_is_kept : (log : List Event) (k : ℕ) (claim : Out) → slice_get (replay log).out k ≡ Some claim →
    claim.revision ≡ (replay log).revision → is_kept (replay log) claim ≡ true
present_is_kept log k claim at present =
    let world : World = replay log in
    let due : IsDueAt world claim.component claim.key =
    (all_at (IsGoodOut world) world.out k claim (replayed_world log).out at).due present in
    let unsettled : due.standing.settled ≡ None = ap settled_in (sym due.at) ∙ replayed_unsettled log k claim at present in
    ap (λ o. is_kept_outcome (outcome_at world.revision world.slots claim o)) (named_due world claim.component claim.key due) ∙
    kept_where_due world.revision world.slots claim due.standing unsettled due.due
