-- A component that an aim reaches, and that is settled, is known by its slot, where slots have the answers that keys are given.
use Rattle.std.proofs.Common.{◌≡◌, ℕ, zero, suc, ◌<◌, Bool, true, false, cond, List, [], ◌∷◌, map, slice_get, Some, None, Option}
use Rattle.std.proofs.Common.{refl, sym, ap, ap₂, ◌∙◌, option_map, arith}
use Rattle.shape_data.specs.declared.answer.Answer.{Answer}
use Rattle.shape_data.specs.declared.answer.Callee.{Callee}
use Rattle.shape_data.specs.declared.answer.Key.{Key}
use Rattle.component_keys.specs.Keys.{Component, Outer, key_over, names_of, program_components}
use Rattle.component_keys.specs.Tests.{key_test}
use Rattle.component_keys.proofs.Basics.{at_map, mapped_some, not_none, some_same}
use Rattle.component_keys.proofs.Ordered.{callees_before}
use Rattle.claim_laws.specs.World.{World, Slot, Standing, both, due_over, given, given_by, settled_by, settled_in}
use Rattle.claim_laws.specs.World.{slot_of, standings}
use Rattle.claim_laws.specs.Logs.{settled_at}
use Rattle.claim_laws.specs.Waits.{IsAim}
use Rattle.claim_laws.proofs.Defined.{standings_as_defined}
use Rattle.claim_laws.proofs.Still.{part_at}
use Rattle.claim_core.specs.Views.{Solution}
use Rattle.summary_book.specs.Views.{slot_solution}
use Rattle.summary_book.proofs.Standings.{settled_stands}
use Rattle.bottom_up.specs.BottomUp.{answered, answers_in, callee_by, callee_from, key_after, known_by}
use Rattle.bottom_up.proofs.Over.{known_is}

-- ---- a slot that settles a component

-- it is the component's, and its key is the one that is due
settled_due : (o : Option Slot) (due : Option Key) (slot : Slot) → settled_by o due ≡ Some slot → (o ≡ Some slot) × (due ≡ Some slot.key)
settled_due None due slot e = not_none e
settled_due (Some own) None slot e = not_none e
settled_due (Some own) (Some key) slot e = by_test (key_test.0 own.key key) refl e
  where
    by_test : (b : Bool) → key_test.0 own.key key ≡ b → cond b (Some own) None ≡ Some slot →
        (Some own ≡ Some slot) × (Some key ≡ Some slot.key)
    by_test true same at = (at, ap (λ k. Some k) (sym ((key_test.1 own.key key).0 same) ∙ ap (λ (s : Slot). s.key) (some_same at)))
    by_test false same at = not_none at

-- ---- callees

-- where each callee's component is settled with what is known of it, its callees are made of what is known
given_known : (before : List Standing) (answers : List Answer) (outer : List Outer) (callees : List Callee) →
    ((k : ℕ) (one : Outer) (slot : Slot) → slice_get outer k ≡ Some one → settled_in (slice_get before one.component) ≡ Some slot →
    slice_get answers one.component ≡ Some slot.answer) →
    given before outer ≡ Some callees → callees ≡ map (callee_from answers) outer
given_known before answers [] callees each e = sym (some_same e)
given_known before answers (first ∷ others) callees each e =
    by_slot (settled_in (slice_get before first.component)) refl (given before others) refl
    (λ more. given_known before answers others more (λ k one slot at. each (suc k) one slot at)) e
  where
    by_slot : (o : Option Slot) → settled_in (slice_get before first.component) ≡ o → (rest : Option (List Callee)) →
        given before others ≡ rest →
        ((more : List Callee) → given before others ≡ Some more → more ≡ map (callee_from answers) others) →
        both (given_by first o) rest ≡ Some callees → callees ≡ map (callee_from answers) (first ∷ others)
    by_slot None s rest g again f = not_none f
    by_slot (Some slot) s None g again f = not_none f
    by_slot (Some slot) s (Some more) g again f =
        sym (some_same f) ∙ ap₂ (λ one rest. one ∷ rest) (ap (callee_by first) (sym (each 0 first slot refl s))) (again more g)

-- ---- what is known

module _ (answer_of : Key → Answer) (world : World) (aim : ℕ → Bool) (closed : IsAim world aim)
    (have : (component : ℕ) (slot : Slot) → aim component ≡ true → settled_at world component ≡ Some slot →
    slot.answer ≡ answer_of slot.key) where
  abbrev known : List Solution
  known = known_by answer_of world.program

  -- over those before it that the aim reaches
  known_at : (component : ℕ) (slot : Slot) → aim component ≡ true → settled_at world component ≡ Some slot →
      ((other : ℕ) (its : Slot) → other < component → aim other ≡ true → settled_at world other ≡ Some its →
      slice_get known other ≡ Some (slot_solution its)) →
      slice_get known component ≡ Some (slot_solution slot)
  known_at component slot reached settled before =
      let own = settled_stands world component slot settled in
      let part : Component = own.0.part in
      let place : slice_get (program_components world.program) component ≡ Some part = part_at world component own.0 own.1 in
      let defined = standings_as_defined world component own.0 own.1 in
      let by = settled_due (slot_of world.slots (names_of part.flows)) own.0.due slot (sym defined.settled ∙ own.2) in
      let due : due_over world.program.structs (standings world) part ≡ Some slot.key = sym defined.due ∙ by.1 in
      let made = mapped_some (key_over world.program.structs part.flows) (given (standings world) part.outer) slot.key due in
      let callees : made.0 ≡ map (callee_from (answers_in known)) part.outer =
      given_known (standings world) (answers_in known) part.outer made.0
      (λ k one its at there.
      at_map (λ (other : Solution). other.answer) known one.component ∙
      ap (option_map (λ (other : Solution). other.answer)) (before one.component its
      (callees_before world.program component k part one place at) (closed component own.0 k one reached own.1 at) there)) made.1 in
      let key : slot.key ≡ key_after world.program.structs (answers_in known) part =
      made.2 ∙ ap (key_over world.program.structs part.flows) callees in
      let answer : slot.answer ≡ answer_of (key_after world.program.structs (answers_in known) part) =
      have component slot reached settled ∙ ap answer_of key in
      let same : answered answer_of (key_after world.program.structs (answers_in known) part) ≡ slot_solution slot =
      λ i. record { key = sym key i; answer = sym answer i } in
      known_is answer_of world.program component part place ∙ ap (λ one. Some one) same

  known_below : (bound component : ℕ) (slot : Slot) → component < bound → aim component ≡ true → settled_at world component ≡ Some slot →
      slice_get known component ≡ Some (slot_solution slot)
  known_below zero component slot lt reached settled = absurd (omega (arith, lt))
  known_below (suc bound) component slot lt reached settled =
      known_at component slot reached settled
      (λ other its less reaches there. known_below bound other its (omega (arith, lt, less)) reaches there)

  pub settled_known : (component : ℕ) (slot : Slot) → aim component ≡ true → settled_at world component ≡ Some slot →
      slice_get known component ≡ Some (slot_solution slot)
  settled_known component slot reached settled = known_below (suc component) component slot (omega arith) reached settled
