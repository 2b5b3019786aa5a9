-- Keys and answers of the world of a legal log are storable.
use Rattle.std.proofs.Common.{◌≡◌, ◌≢◌, ℕ, ◌==◌, arith, Bool, true, false, cond, not, List, [], ◌∷◌, slice_get, Some, None, Option, refl}
use Rattle.std.proofs.Common.{sym, ap, ◌∙◌, subst, All}
use Rattle.std.specs.List.{AllZip, Contains}
use Rattle.std.proofs.lemmas.List.Elements.{All-nil, All-push, All-filter, All-head, All-tail}
use Rattle.shape_data.specs.declared.answer.Answer.{Answer}
use Rattle.shape_data.specs.declared.answer.Callee.{Callee}
use Rattle.shape_data.specs.declared.answer.Key.{Key}
use Rattle.shape_data.specs.declared.program.Flow.{Flow}
use Rattle.shape_data.specs.declared.program.Proc.{Proc}
use Rattle.shape_data.specs.declared.program.StructDef.{StructDef}
use Rattle.shape_data.specs.Structures.{ContainsStructures}
use Rattle.shape_data.specs.WellFormed.{FitCalls, HasLines, IsCallee, IsFlow, IsProgram, IsStorableAnswer, IsStorableKey, IsStruct}
use Rattle.shape_data.specs.WellFormed.{storable}
use Rattle.component_keys.specs.Components.{same_names}
use Rattle.component_keys.specs.Keys.{Component, Outer, key_over, names_of, program_components, specs_in}
use Rattle.component_keys.specs.Tests.{key_test}
use Rattle.component_keys.proofs.Basics.{found, mapped_some, not_none, some_same}
use Rattle.claim_laws.specs.Logs.{AreLegal, IsSolved, first_world, replay_from}
use Rattle.claim_laws.specs.World.{Event, Out, Slot, Standing, World, after, both, but, given, given_by, happened, is_present, may_happen}
use Rattle.claim_laws.specs.World.{out_of, settled_by, settled_in, slot_for, slot_of, slots_with, standing_at, standings}
use Rattle.claim_laws.proofs.Defined.{standings_as_defined}
use Rattle.claim_laws.proofs.Invariant.{All-put, all_at}
use Rattle.claim_laws.proofs.Once.{claim_needs}
use Rattle.claim_laws.proofs.Steps.{by_may, settled_slot}
use Rattle.claim_laws.proofs.Still.{part_at}
use Rattle.key_laws.specs.Composing.{IsCalleeFor}
use Rattle.key_laws.specs.Storing.{DueKeysAreStorable, EventsKeepStorable, IsFormedEvent, IsStorableSlot, IsStorableWorld}
use Rattle.key_laws.specs.Storing.{LegalWorldsAreStorable}
use Rattle.key_laws.proofs.Elements.{all_of, contained_at, pairs_none, zipped_left, zipped_weaker}
use Rattle.key_laws.proofs.Keeping.{used_contained}
use Rattle.key_laws.proofs.Members.{component_at, component_of_class, outer_from, outer_listed}
use Rattle.key_laws.proofs.Formed.{composed_are_formed}
use Rattle.key_laws.proofs.Callees.{answers_are_callees}

-- each callee is given by its component's slot
abbrev IsGiven : List Standing → Outer → Callee → Type 0
IsGiven before outer callee = given_by outer (settled_in (slice_get before outer.component)) ≡ Some callee

given_each : (before : List Standing) (outer : List Outer) (callees : List Callee) → given before outer ≡ Some callees →
    AllZip (IsGiven before) outer callees
given_each before [] callees e = subst (AllZip (IsGiven before) []) (some_same e) tt
given_each before (first ∷ others) callees e =
    by_both (given_by first (settled_in (slice_get before first.component))) (given before others) refl refl e (given_each before others)
  where
    by_both : (one : Option Callee) (rest : Option (List Callee)) → given_by first (settled_in (slice_get before first.component)) ≡ one →
        given before others ≡ rest → both one rest ≡ Some callees →
        ((more : List Callee) → given before others ≡ Some more → AllZip (IsGiven before) others more) →
        AllZip (IsGiven before) (first ∷ others) callees
    by_both None rest f g at again = not_none at
    by_both (Some one) None f g at again = not_none at
    by_both (Some one) (Some more) f g at again = subst (AllZip (IsGiven before) (first ∷ others)) (some_same at) (f, again more g)

given_for : (outer : Outer) (slot : Option Slot) (callee : Callee) → given_by outer slot ≡ Some callee → IsCalleeFor outer callee
given_for outer None callee e = not_none e
given_for outer (Some slot) callee e = subst (IsCalleeFor outer) (some_same e) (record { name = refl; params = refl })

-- it is settled under the key that it is due
settled_key : (o : Option Slot) (due : Option Key) (slot : Slot) → settled_by o due ≡ Some slot → due ≡ Some slot.key
settled_key None due slot e = not_none e
settled_key (Some own) None slot e = not_none e
settled_key (Some own) (Some key) slot e = by_test (key_test.0 own.key key) refl e
  where
    by_test : (b : Bool) → key_test.0 own.key key ≡ b → cond b (Some own) None ≡ Some slot → Some key ≡ Some slot.key
    by_test true t at = ap (λ k. Some k) (sym ((key_test.1 own.key key).0 t)) ∙ ap (λ (s : Slot). Some s.key) (some_same at)
    by_test false t at = not_none at

-- a standing with its slot
settled_standing : (o : Option Standing) (slot : Slot) → settled_in o ≡ Some slot →
    (standing : Standing) × (o ≡ Some standing) × (standing.settled ≡ Some slot)
settled_standing None slot e = not_none e
settled_standing (Some standing) slot e = (standing, refl, e)

given_slot : (outer : Outer) (o : Option Slot) (callee : Callee) → given_by outer o ≡ Some callee →
    (slot : Slot) × (o ≡ Some slot)
    × (callee ≡ record { name = outer.name; params = outer.params; specs = specs_in slot.answer outer.name })
given_slot outer None callee e = not_none e
given_slot outer (Some slot) callee e = (slot, refl, sym (some_same e))

module _ (world : World) (good : IsStorableWorld world) where
  -- a slot under which a component is settled has its procedures, and structures of the program
  pub record IsSettledBy (place : ℕ) (component : Component) (slot : Slot) : Type 0 where
    pub slot_is : IsStorableSlot slot
    pub procs : slot.key.procs ≡ component.flows
    pub structs : ContainsStructures world.program.structs slot.key.structs

  settled_is : (place : ℕ) (component : Component) (slot : Slot) → slice_get (program_components world.program) place ≡ Some component →
      settled_in (standing_at world place) ≡ Some slot →
      IsSettledBy place component slot
  settled_is place component slot at settled =
      let one = settled_standing (standing_at world place) slot settled in
      let same : one.0.part ≡ component = some_same (sym (part_at world place one.0 one.1) ∙ at) in
      let defined = standings_as_defined world place one.0 one.1 in
      let by : settled_by (slot_of world.slots (names_of one.0.part.flows)) one.0.due ≡ Some slot = sym defined.settled ∙ one.2 in
      let there =
      found (λ (other : Slot). same_names other.members (names_of one.0.part.flows)) world.slots slot
      (settled_slot (slot_of world.slots (names_of one.0.part.flows)) one.0.due slot by) in
      let due =
      mapped_some (key_over world.program.structs one.0.part.flows) (given (standings world) one.0.part.outer) slot.key
      (sym defined.due ∙ settled_key (slot_of world.slots (names_of one.0.part.flows)) one.0.due slot by) in
      record {
        slot_is = all_at IsStorableSlot world.slots there.1.0 slot good.slots there.1.1;
        procs = ap (λ (k : Key). k.procs) due.2 ∙ ap (λ (c : Component). c.flows) same;
        structs =
            subst (λ (k : Key). ContainsStructures world.program.structs k.structs) (sym due.2)
            (used_contained world.program.structs good.program.structs one.0.part.flows due.0);
      }

  -- what a component is given for a procedure outside
  callee_is : (component : ℕ) (part : Component) (k : ℕ) (outer : Outer) (callee : Callee) →
      slice_get (program_components world.program) component ≡ Some part → slice_get part.outer k ≡ Some outer →
      IsGiven (standings world) outer callee → IsCallee storable world.program.structs callee
  callee_is component part k outer callee at outer_at is_given =
      let one = component_at world.program good.program component part at in
      let out =
      outer_from world.program good.program one.class k outer (ap (λ (c : Component). slice_get c.outer k) (sym one.is) ∙ outer_at) in
      let own = outer_listed world.program good.program one.class outer out in
      let slot = given_slot outer (settled_in (standing_at world outer.component)) callee is_given in
      let settled =
      settled_is outer.component _ slot.0 (component_of_class world.program good.program outer.component own.0 own.1) slot.1 in
      let member : Contains slot.0.key.procs own.3 =
      subst (λ (l : List Flow). Contains l own.3) (sym settled.procs) (contained_at _ own.2 own.3 own.4) in
      let made =
      answers_are_callees storable world.program.structs slot.0.key slot.0.answer own.3 settled.slot_is.key settled.slot_is.answer.answers
      settled.structs member in
      subst (IsCallee storable world.program.structs) (sym slot.2)
      (subst (λ n. IsCallee storable world.program.structs
      (record { name = n; params = outer.params; specs = specs_in slot.0.answer n })) own.5
      (subst (λ p. IsCallee storable world.program.structs
      (record { name = own.3.name; params = p; specs = specs_in slot.0.answer own.3.name })) own.6 made))

  due_is : (component : ℕ) (standing : Standing) (key : Key) → standing_at world component ≡ Some standing → standing.due ≡ Some key →
      IsStorableKey key
  due_is component standing key at due =
      let defined = standings_as_defined world component standing at in
      let own =
      mapped_some (key_over world.program.structs standing.part.flows) (given (standings world) standing.part.outer) key
      (sym defined.due ∙ due) in
      let part = part_at world component standing at in
      let zip = given_each (standings world) standing.part.outer own.0 own.1 in
      subst IsStorableKey (sym own.2)
      (composed_are_formed storable world.program component standing.part own.0 good.program part
      (zipped_weaker (IsGiven (standings world)) IsCalleeFor
      (λ outer callee is. given_for outer
      (settled_in (slice_get (standings world) outer.component)) callee is) standing.part.outer own.0 zip)
      (all_of (IsCallee storable world.program.structs) own.0
      (λ k callee at_k.
      let outer = zipped_left (IsGiven (standings world)) standing.part.outer own.0 k callee zip at_k in
      callee_is component standing.part k outer.0 callee part outer.1 outer.2)))

pub due_keys : DueKeysAreStorable
due_keys world component standing key good at due = due_is world good component standing key at due

slots_are : (slots : List Slot) (kept : Bool) (answer : Answer) (o : Option Out) → All IsStorableSlot slots →
    ((claim : Out) → o ≡ Some claim → IsStorableKey claim.key × IsStorableAnswer claim.key answer) →
    All IsStorableSlot (slots_with slots kept answer o)
slots_are slots kept answer None all good = all
slots_are slots false answer (Some claim) all good = all
slots_are slots true answer (Some claim) all good =
    All-put IsStorableSlot (slot_for claim answer) (but slots (names_of claim.key.procs))
    (record { key = (good claim refl).0; answer = (good claim refl).1 }) (All-filter _ IsStorableSlot slots all)

abbrev HasStorableKey : Out → Type 0
HasStorableKey claim = IsStorableKey claim.key

happened_is : (world : World) (event : Event) → IsStorableWorld world → IsFormedEvent event → IsSolved IsStorableAnswer world event →
    may_happen world event ≡ true → IsStorableWorld (happened world event)
happened_is world (Event.Revise revision program) good formed solved may =
    record { program = formed; slots = All-filter (is_present program) IsStorableSlot world.slots good.slots; out = good.out }
happened_is world (Event.Claim number worker component key) good formed solved may =
    let needs = claim_needs world number worker component key may in
    record {
      program = good.program;
      slots = good.slots;
      out =
          All-push HasStorableKey world.out
          (record { number = number; worker = worker; component = component; revision = world.revision; key = key }) good.out
          (due_keys world component needs.standing key good needs.at needs.due);
    }
happened_is world (Event.Publish number answer kept) good formed solved may = record {
  program = good.program;
  slots = slots_are world.slots kept answer (out_of world.out number) good.slots
      (λ claim e. let there = found
      (λ (one : Out). one.number
      == number) world.out claim e in (all_at HasStorableKey world.out there.1.0 claim good.out there.1.1, solved claim e));
  out = All-filter (λ (one : Out). not (one.number == number)) HasStorableKey world.out good.out;
}
happened_is world (Event.GiveBack number) good formed solved may =
    record {
      program = good.program;
      slots = good.slots;
      out = All-filter (λ (one : Out). not (one.number == number)) HasStorableKey world.out good.out;
    }

pub events_keep : EventsKeepStorable
events_keep world event good formed solved = by_may world event IsStorableWorld (λ may. happened_is world event good formed solved may) good

solved_weaker : (P Q : Key → Answer → Type 0) → ((key : Key) (answer : Answer) → P key answer → Q key answer) →
    (world : World) (event : Event) → IsSolved P world event → IsSolved Q world event
solved_weaker P Q h world (Event.Revise revision program) solved = tt
solved_weaker P Q h world (Event.Claim number worker component key) solved = tt
solved_weaker P Q h world (Event.Publish number answer kept) solved = λ claim e. h claim.key answer (solved claim e)
solved_weaker P Q h world (Event.GiveBack number) solved = tt

-- what is legal for one meaning of answers is so for each weaker one
pub legal_weaker : (P Q : Key → Answer → Type 0) → ((key : Key) (answer : Answer) → P key answer → Q key answer) →
    (world : World) (log : List Event) → AreLegal P world log → AreLegal Q world log
legal_weaker P Q h world [] legal = tt
legal_weaker P Q h world (event ∷ others) legal =
    (legal.0, solved_weaker P Q h world event legal.1, legal_weaker P Q h (after world event) others legal.2)

worlds_from : (world : World) (log : List Event) → AreLegal IsStorableAnswer world log → All IsFormedEvent log → IsStorableWorld world →
    IsStorableWorld (replay_from world log)
worlds_from world [] legal formed good = good
worlds_from world (event ∷ others) legal formed good =
    worlds_from (after world event) others legal.2 (All-tail IsFormedEvent event others formed)
    (events_keep world event good (All-head IsFormedEvent event others formed) legal.1)

empty_is : IsProgram (record { structs = []; procs = [] })
empty_is = record {
  structs =
      record {
        countable = omega arith;
        each = All-nil IsStruct;
        different = pairs_none (λ (one other : StructDef). one.name ≢ other.name);
      };
  countable = omega arith;
  flows = All-nil (λ (proc : Proc). IsFlow [] proc.flow);
  lines = All-nil HasLines;
  different = pairs_none (λ (one other : Proc). one.flow.name ≢ other.flow.name);
  calls = All-nil (λ (proc : Proc). FitCalls (λ (one : Proc). one.flow.name) (λ (one : Proc). one.flow.params) [] proc.flow);
}

pub legal_worlds : (solves : Key → Answer → Type 0) → LegalWorldsAreStorable solves
legal_worlds solves within log legal formed =
    worlds_from first_world log (legal_weaker solves IsStorableAnswer within first_world log legal) formed
    (record { program = empty_is; slots = All-nil IsStorableSlot; out = All-nil HasStorableKey })
