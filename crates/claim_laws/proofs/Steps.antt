-- What one event leaves: everything that is settled or due, but for a revision.
use Rattle.std.proofs.Common.{◌≡◌, ℕ, nat_lt, Bool, true, false, cond, not, List, [], ◌∷◌, slice_get, Some, None, Option, refl, sym, ap}
use Rattle.std.proofs.Common.{◌∙◌, find}
use Rattle.std.specs.List.{AllZip}
use Rattle.shape_data.specs.declared.answer.Answer.{Answer}
use Rattle.shape_data.specs.declared.answer.Key.{Key}
use Rattle.component_keys.specs.Components.{same_names}
use Rattle.component_keys.specs.Keys.{program_components, names_of}
use Rattle.component_keys.specs.Tests.{key_test}
use Rattle.claim_laws.specs.declared.published.Published.{Published}
use Rattle.claim_laws.specs.World.{World, Event, Slot, Out, Standing, slot_of, settled_in, settled_by, standings_from, standings}
use Rattle.claim_laws.specs.World.{standing_at, standing_named, out_of, put_slot, but, slot_for, outcome_settled, outcome_at}
use Rattle.claim_laws.specs.World.{is_kept_outcome, is_kept, may_publish, may_happen, slots_with, happened, after}
use Rattle.claim_laws.specs.Logs.{settled_at}
use Rattle.component_keys.proofs.Basics.{not_none, some_same, found, found_kept, not_found, zipped_at}
use Rattle.component_keys.proofs.Apart.{names_same}
use Rattle.claim_laws.proofs.Still.{IsStill, SlotsStay, standings-still, standings_known, standings_apart}

-- ---- slots after one is put

put_other : (p : Slot → Bool) (slot : Slot) (slots : List Slot) → p slot ≡ false → find p (put_slot slot slots) ≡ find p slots
put_other p slot [] e = rw e refl
put_other p slot (first ∷ others) e = by_test (nat_lt slot.claim first.claim) (put_other p slot others e)
  where
    by_test : (b : Bool) → find p (put_slot slot others) ≡ find p others →
        find p (cond b (slot ∷ first ∷ others) (first ∷ put_slot slot others)) ≡ cond (p first) (Some first) (find p others)
    by_test true again = rw e refl
    by_test false again = ap (λ o. cond (p first) (Some first) o) again

put_same : (p : Slot → Bool) (slot : Slot) (slots : List Slot) → p slot ≡ true → find p slots ≡ None →
    find p (put_slot slot slots) ≡ Some slot
put_same p slot [] e none = rw e refl
put_same p slot (first ∷ others) e none = by_test (nat_lt slot.claim first.claim) (p first) refl none (put_same p slot others e)
  where
    by_test : (b c : Bool) → p first ≡ c → cond c (Some first) (find p others) ≡ None →
        (find p others ≡ None → find p (put_slot slot others) ≡ Some slot) →
        find p (cond b (slot ∷ first ∷ others) (first ∷ put_slot slot others)) ≡ Some slot
    by_test b true f empty again = not_none (sym empty)
    by_test true false f empty again = rw e refl
    by_test false false f empty again = rw f (again empty)

pub slot_of_other : (slot : Slot) (slots : List Slot) (names : List (List ℕ)) → same_names slot.members names ≡ false →
    slot_of (put_slot slot (but slots slot.members)) names ≡ slot_of slots names
slot_of_other slot slots names differ =
    put_other (λ one. same_names one.members names) slot (but slots slot.members) differ ∙
    found_kept (λ one. same_names one.members names) (λ one. not (same_names one.members slot.members)) slots
    (λ one e. by_test one (same_names one.members slot.members) refl ((names_same one.members names).0 e))
  where
    by_test : (one : Slot) (b : Bool) → same_names one.members slot.members ≡ b → one.members ≡ names → not b ≡ true
    by_test one false f e = refl
    by_test one true f e =
        let t : same_names slot.members names ≡ true =
        (names_same slot.members names).1 (sym ((names_same one.members slot.members).0 f) ∙ e) in cc

pub slot_of_same : (slot : Slot) (slots : List Slot) → slot_of (put_slot slot (but slots slot.members)) slot.members ≡ Some slot
slot_of_same slot slots =
    put_same (λ one. same_names one.members slot.members) slot (but slots slot.members) ((names_same slot.members slot.members).1 refl)
    (not_found (λ one. same_names one.members slot.members) slots)

-- ---- what is still known

pub still_same : (all : List Standing) → AllZip IsStill all all
still_same [] = tt
still_same (first ∷ others) = (record { part = refl; due = λ key e. e; settled = λ slot e. e }, still_same others)

pub settled_slot : (o : Option Slot) (due : Option Key) (slot : Slot) → settled_by o due ≡ Some slot → o ≡ Some slot
settled_slot None due slot e = not_none e
settled_slot (Some own) None slot e = not_none e
settled_slot (Some own) (Some key) slot e = by_test (key_test.0 own.key key) e
  where
    by_test : (b : Bool) → cond b (Some own) None ≡ Some slot → Some own ≡ Some slot
    by_test true at = at
    by_test false at = not_none at

-- an answer that is kept is put for a component that is not settled
pub kept_at : (revision : ℕ) (slots : List Slot) (claim : Out) (o : Option Standing) →
    is_kept_outcome (outcome_at revision slots claim o) ≡ true → (standing : Standing) × (o ≡ Some standing) × (standing.settled ≡ None)
kept_at revision slots claim None e = cc
kept_at revision slots claim (Some standing) e = (standing, refl, by_settled standing.settled _ e)
  where
    by_settled : (o : Option Slot) (unsettled : Published) → is_kept_outcome (outcome_settled o unsettled) ≡ true → o ≡ None
    by_settled None unsettled t = refl
    by_settled (Some slot) unsettled t = cc

kept_stay : (world : World) (claim : Out) (answer : Answer) → is_kept world claim ≡ true →
    SlotsStay (standings world) (put_slot (slot_for claim answer) (but world.slots (names_of claim.key.procs)))
kept_stay world claim answer kept i standing slot at settled =
    let named = kept_at world.revision world.slots claim (standing_named world (names_of claim.key.procs)) kept in
    let there = found (λ one. same_names (names_of one.part.flows) (names_of claim.key.procs)) (standings world) named.0 named.1 in
    let is_own : slot_of world.slots (names_of standing.part.flows) ≡ Some slot =
    settled_slot (slot_of world.slots (names_of standing.part.flows)) standing.due slot
    (sym (standings_known world i standing at).settled ∙ settled) in
    slot_of_other (slot_for claim answer) world.slots (names_of standing.part.flows)
    (by_test (same_names (names_of claim.key.procs) (names_of standing.part.flows)) refl named.0 named.2 there.1.0 there.1.1
    ((names_same (names_of named.0.part.flows) (names_of claim.key.procs)).0 there.0)) ∙ is_own
  where
    by_test : (b : Bool) → same_names (names_of claim.key.procs) (names_of standing.part.flows) ≡ b →
        (other : Standing) → other.settled ≡ None → (j : ℕ) → slice_get (standings world) j ≡ Some other →
        names_of other.part.flows ≡ names_of claim.key.procs → b ≡ false
    by_test false e other none j at_j same = refl
    by_test true e other none j at_j same =
        let place : i ≡ j = standings_apart world i j standing other at at_j
        (sym ((names_same (names_of claim.key.procs) (names_of standing.part.flows)).0 e) ∙ sym same) in
        let one : Some standing ≡ Some other = sym at ∙ ap (λ k. slice_get (standings world) k) place ∙ at_j in
        absurd (not_none (sym none ∙ ap (λ one. one.settled) (sym (some_same one)) ∙ settled))

-- the standings of a world with other slots
abbrev pub standings_with : World → List Slot → List Standing
standings_with world slots = standings_from world.program.structs slots (program_components world.program) []

published_still : (world : World) (answer : Answer) (kept : Bool) (o : Option Out) → may_publish world kept o ≡ true →
    AllZip IsStill (standings world) (standings_with world (slots_with world.slots kept answer o))
published_still world answer kept None e = cc
published_still world answer false (Some claim) e = still_same (standings world)
published_still world answer true (Some claim) e =
    standings-still world.program.structs world.slots (put_slot (slot_for claim answer) (but world.slots (names_of claim.key.procs)))
    (program_components world.program) [] [] tt
    (kept_stay world claim answer e)

-- the event is no revision
abbrev pub IsNoRevise : Event → Type 0
IsNoRevise (Event.Revise revision program) = ⊥
IsNoRevise _ = Unit {0}

pub happened_still : (world : World) (event : Event) → IsNoRevise event → may_happen world event ≡ true →
    AllZip IsStill (standings world) (standings (happened world event))
happened_still world (Event.Revise revision program) none may = absurd none
happened_still world (Event.Claim number worker component key) none may = still_same (standings world)
happened_still world (Event.Publish number answer kept) none may = published_still world answer kept (out_of world.out number) may
happened_still world (Event.GiveBack number) none may = still_same (standings world)

-- an event that may not happen changes nothing
pub by_may : (world : World) (event : Event) (P : World → Type 0) → (may_happen world event ≡ true → P (happened world event)) → P world →
    P (after world event)
by_may world event P happens old = by_test (may_happen world event) refl
  where
    by_test : (b : Bool) → may_happen world event ≡ b → P (cond b (happened world event) world)
    by_test true e = happens e
    by_test false e = old

pub after_still : (world : World) (event : Event) → IsNoRevise event → AllZip IsStill (standings world) (standings (after world event))
after_still world event none =
    by_may world event (λ new. AllZip IsStill (standings world) (standings new)) (happened_still world event none)
    (still_same (standings world))

-- a settled component stays settled, with the same slot
pub settled_after : (world : World) (event : Event) → IsNoRevise event → (component : ℕ) (slot : Slot) →
    settled_at world component ≡ Some slot → settled_at (after world event) component ≡ Some slot
settled_after world event none component slot e = by_standing (standing_at world component) refl e
  where
    by_standing : (o : Option Standing) → standing_at world component ≡ o → settled_in o ≡ Some slot →
        settled_at (after world event) component ≡ Some slot
    by_standing None at f = not_none f
    by_standing (Some standing) at f =
        let later =
        zipped_at IsStill (standings world) (standings (after world event)) component standing (after_still world event none) at in
        rw later.1 (later.2.settled slot f)
