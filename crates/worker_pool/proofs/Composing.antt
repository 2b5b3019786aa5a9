-- The entries of an aim have the composed keys of its components.
use Rattle.std.proofs.Common.{◌≡◌, ◌+◌, ◌<◌, ◌≤◌, ◌==◌, ◌||◌, ◌≢◌, ℕ, zero, suc, Bool, true, false, cond, List, [], ◌∷◌, length, map}
use Rattle.std.proofs.Common.{slice_get, Some, None, Option, refl, sym, ap, ◌∙◌, subst, arith, option_map}
use Rattle.std.proofs.lemmas.Bool.Decides.{Decides-eqb}
use Rattle.std.specs.List.{AllZip, cons_option, filter, filter_map, list_any, range_with_len}
use Rattle.shape_data.specs.declared.answer.Answer.{Answer}
use Rattle.shape_data.specs.declared.answer.Callee.{Callee}
use Rattle.shape_data.specs.declared.answer.Key.{Key}
use Rattle.sym_parts.proofs.ShapesLemmas.StepsStacks.{within-some}
use Rattle.component_keys.specs.Keys.{Outer, key_over, names_of, program_components}
use Rattle.component_keys.specs.Tests.{key_test}
use Rattle.component_keys.proofs.Basics.{mapped_some, not_none, some_same}
use Rattle.component_keys.proofs.Ordered.{callees_before}
use Rattle.claim_core.specs.Views.{Solution}
use Rattle.claim_laws.specs.World.{Slot, Standing, World, both, given, given_by, settled_by, slot_of, standings, standing_at}
use Rattle.claim_laws.specs.Logs.{replay, settled_at}
use Rattle.claim_laws.proofs.Defined.{standings_as_defined}
use Rattle.claim_laws.proofs.Still.{part_at}
use Rattle.summary_book.specs.declared.aims.Aim.{Aim}
use Rattle.summary_book.specs.Aims.{aimed}
use Rattle.summary_book.specs.Next.{IsSettled, slots_by}
use Rattle.summary_book.specs.Views.{slot_solution}
use Rattle.summary_book.proofs.Components.{aims_are}
use Rattle.summary_book.proofs.Standings.{settled_of, settled_stands, standings_length}
use Rattle.worker_pool.specs.Composed.{AreComposed, EntriesAreComposed, IsComposed, answer_among, callee_among, callee_by}

-- ---- lists

differ : (one other : ℕ) → (one == other) ≡ false → one ≢ other
differ one other e is = let never : true ≡ false = sym ((Decides-eqb one other).1 is) ∙ e in cc

-- what stands in a list of numbers
in_range : (p : ℕ → Bool) (component from count : ℕ) → p component ≡ true → from ≤ component → component < from + count →
    list_any (λ number. number == component) (filter p (range_with_len from count)) ≡ true
in_range p component from zero passes above below = absurd (omega (arith, above, below))
in_range p component from (suc count) passes above below =
    by_tests (from == component) refl (p from) refl (λ more. in_range p component (from + 1) count passes more (omega (arith, below)))
  where
    others : List ℕ
    others = filter p (range_with_len (from + 1) count)

    later : (from == component) ≡ false → from + 1 ≤ component
    later e = let other = differ from component e in omega (arith, above, other)

    by_tests : (same : Bool) → (from == component) ≡ same → (b : Bool) → p from ≡ b →
        (from + 1 ≤ component → list_any (λ number. number == component) others ≡ true) →
        list_any (λ number. number == component) (cond b (from ∷ others) others) ≡ true
    by_tests true e true f again = ap (λ t. t || list_any (λ number. number == component) others) e
    by_tests true e false f again = absurd (let is : from ≡ component = (Decides-eqb from component).0 e in
        let never : true ≡ false = sym passes ∙ ap p (sym is) ∙ f in cc)
    by_tests false e true f again = ap (λ t. t || list_any (λ number. number == component) others) e ∙ again (later e)
    by_tests false e false f again = again (later e)

-- where each that passes has a value, the values stand beside them
zipped_range : {Y : Type 0} (f : ℕ → Option Y) (p : ℕ → Bool) (from count end : ℕ) → from + count ≡ end →
    ((number : ℕ) → number < end → p number ≡ true → (y : Y) × (f number ≡ Some y)) →
    AllZip (λ number y. (number < end) × (p number ≡ true) × (f number ≡ Some y)) (filter p (range_with_len from count))
    (filter_map f (filter p (range_with_len from count)))
zipped_range f p from zero end is each = tt
zipped_range {Y = Y} f p from (suc count) end is each =
    by_test (p from) refl (zipped_range f p (from + 1) count end (omega (arith, is)) each)
  where
    below : from < end
    below = omega (arith, is)

    P : ℕ → Y → Type 0
    P number y = (number < end) × (p number ≡ true) × (f number ≡ Some y)

    by_test : (b : Bool) → p from ≡ b → AllZip P (filter p (range_with_len (from + 1) count))
        (filter_map f (filter p (range_with_len (from + 1) count))) →
        AllZip P (cond b (from ∷ filter p (range_with_len (from + 1) count)) (filter p (range_with_len (from + 1) count)))
        (filter_map f (cond b (from ∷ filter p (range_with_len (from + 1) count)) (filter p (range_with_len (from + 1) count))))
    by_test false e rest = rest
    by_test true e rest =
        let one = each from below e in
        subst (λ o. AllZip P (from ∷ filter p (range_with_len (from + 1) count))
        (cons_option o (filter_map f (filter p (range_with_len (from + 1) count))))) (sym one.1) ((below, e, one.1), rest)

module _ (world : World) (aim : Aim) (all : IsSettled world (aimed world.program aim)) where
  abbrev aims : ℕ → Bool
  aims = aimed world.program aim

  abbrev count : ℕ
  count = length (standings world)

  abbrev numbers : List ℕ
  numbers = filter aims (range_with_len 0 count)

  abbrev IsOf : ℕ → Slot → Type 0
  IsOf number slot = (number < count) × (aims number ≡ true) × (settled_at world number ≡ Some slot)

  -- each that the aim reaches is settled
  is_settled : (number : ℕ) → number < count → aims number ≡ true → (slot : Slot) × (settled_at world number ≡ Some slot)
  is_settled number lt reached = by_settled (within-some (standings world) number lt).0 (within-some (standings world) number lt).1
      (within-some (standings world) number lt).0.settled refl
    where
      by_settled : (standing : Standing) → standing_at world number ≡ Some standing → (o : Option Slot) → standing.settled ≡ o →
          (slot : Slot) × (settled_at world number ≡ Some slot)
      by_settled standing at None e = absurd (all number reached (record { standing = standing; at = at; settled = e }))
      by_settled standing at (Some slot) e = (slot, settled_of world number standing at ∙ e)

  slots_stand : AllZip IsOf numbers (slots_by world aims)
  slots_stand = zipped_range (settled_at world) aims 0 count count (omega arith) is_settled

  -- the answer among the entries is that of the component's slot
  answer_is : (some : List ℕ) (slots : List Slot) → AllZip IsOf some slots → (component : ℕ) →
      list_any (λ number. number == component) some ≡ true →
      answer_among some (map slot_solution slots) component ≡ option_map (λ (slot : Slot). slot.answer) (settled_at world component)
  answer_is [] slots stand component held = absurd (let never : false ≡ true = held in cc)
  answer_is (number ∷ some) [] stand component held = absurd stand
  answer_is (number ∷ some) (slot ∷ slots) stand component held =
      by_test (number == component) refl held (answer_is some slots stand.1 component)
    where
      by_test : (b : Bool) → (number == component) ≡ b → (b || list_any (λ n. n == component) some) ≡ true →
          (list_any (λ n. n == component) some ≡ true → answer_among some (map slot_solution slots) component ≡ option_map
          (λ (one : Slot). one.answer) (settled_at world component)) →
          cond b (Some slot.answer) (answer_among some (map slot_solution slots) component) ≡ option_map (λ (one : Slot). one.answer)
          (settled_at world component)
      by_test true e h again =
          let is : number ≡ component = (Decides-eqb number component).0 e in
          let at : settled_at world component ≡ Some slot = ap (settled_at world) (sym is) ∙ stand.0.2 in
          sym (ap (option_map (λ (one : Slot). one.answer)) at)
      by_test false e h again = again h

  abbrev entries : List Solution
  entries = map slot_solution (slots_by world aims)

  -- the callees of a component that is due a key
  callees_are : (outer : List Outer) (callees : List Callee) →
      ((k : ℕ) (one : Outer) → slice_get outer k ≡ Some one →
      answer_among numbers entries one.component ≡ option_map (λ (slot : Slot). slot.answer) (settled_at world one.component)) →
      given (standings world) outer ≡ Some callees → map (callee_among numbers entries) outer ≡ map
      (λ (callee : Callee). Some callee) callees
  callees_are [] callees each e = ap (map (λ (callee : Callee). Some callee)) (some_same e)
  callees_are (first ∷ others) callees each e =
      by_slot (settled_at world first.component) refl (given (standings world) others) refl
      (λ more. callees_are others more (λ k one at. each (suc k) one at)) e
    where
      by_slot : (o : Option Slot) → settled_at world first.component ≡ o → (rest : Option (List Callee)) →
          given (standings world) others ≡ rest →
          ((more : List Callee) → given (standings world) others ≡ Some more →
          map (callee_among numbers entries) others ≡ map (λ (callee : Callee). Some callee) more) →
          both (given_by first o) rest ≡ Some callees → map (callee_among numbers entries) (first ∷ others) ≡ map
          (λ (callee : Callee). Some callee) callees
      by_slot None s rest g again f = not_none f
      by_slot (Some slot) s None g again f = not_none f
      by_slot (Some slot) s (Some more) g again f =
          let own : callee_among numbers entries first ≡ Some (callee_by first slot.answer) =
          ap (option_map (callee_by first)) (each 0 first refl ∙ ap (option_map (λ (one : Slot). one.answer)) s) in
          ap (λ o. o ∷ map (callee_among numbers entries) others) own ∙ ap (λ l. Some (callee_by first slot.answer) ∷ l) (again more g) ∙
          ap (map (λ (callee : Callee). Some callee)) (some_same f)

  -- a slot that settles has the key that is due
  due_is : (o : Option Slot) (due : Option Key) (slot : Slot) → settled_by o due ≡ Some slot → due ≡ Some slot.key
  due_is None due slot e = not_none e
  due_is (Some own) None slot e = not_none e
  due_is (Some own) (Some key) slot e = by_test (key_test.0 own.key key) refl e
    where
      by_test : (b : Bool) → key_test.0 own.key key ≡ b → cond b (Some own) None ≡ Some slot → Some key ≡ Some slot.key
      by_test true same at = ap (λ k. Some k) (sym ((key_test.1 own.key key).0 same) ∙ ap (λ (s : Slot). s.key) (some_same at))
      by_test false same at = not_none at

  is_composed : (number : ℕ) (slot : Slot) → IsOf number slot → IsComposed world.program numbers entries number (slot_solution slot)
  is_composed number slot stand = record {
    part = standing.part;
    part_is = part;
    callees = key.0;
    callees_are =
        callees_are standing.part.outer key.0 each key.1;
    key_is = key.2;
  }
    where
      one : (standing : Standing) × (standing_at world number ≡ Some standing) × (standing.settled ≡ Some slot)
      one = settled_stands world number slot stand.2

      standing : Standing
      standing = one.0

      part : slice_get (program_components world.program) number ≡ Some standing.part
      part = part_at world number standing one.1

      key : (callees : List Callee) × (given (standings world) standing.part.outer ≡ Some callees) ×
          (slot.key ≡ key_over world.program.structs standing.part.flows callees)
      key =
          let known = standings_as_defined world number standing one.1 in
          mapped_some (key_over world.program.structs standing.part.flows) (given (standings world) standing.part.outer) slot.key
          (sym known.due ∙ due_is (slot_of world.slots (names_of standing.part.flows)) standing.due slot (sym known.settled ∙ one.2))

      each : (k : ℕ) (outer : Outer) → slice_get standing.part.outer k ≡ Some outer →
          answer_among numbers entries outer.component ≡ option_map (λ (its : Slot). its.answer) (settled_at world outer.component)
      each k outer at =
          let before : outer.component < number = callees_before world.program number k standing.part outer part at in
          let within : number < count = stand.0 in
          answer_is numbers (slots_by world aims) slots_stand outer.component
          (in_range aims outer.component 0 count (aims_are world aim number standing k outer stand.1 one.1 at) (omega arith)
          (omega (arith, before, within)))

  all_composed : (some : List ℕ) (slots : List Slot) → AllZip IsOf some slots →
      AllZip (IsComposed world.program numbers entries) some (map slot_solution slots)
  all_composed [] [] stand = tt
  all_composed [] (slot ∷ slots) stand = absurd stand
  all_composed (number ∷ some) [] stand = absurd stand
  all_composed (number ∷ some) (slot ∷ slots) stand = (is_composed number slot stand.0, all_composed some slots stand.1)

  pub are_composed : AreComposed world.program aim entries
  are_composed =
      subst (λ n. AllZip (IsComposed world.program (filter aims (range_with_len 0 n)) entries)
      (filter aims (range_with_len 0 n)) entries) (standings_length world)
      (all_composed numbers (slots_by world aims) slots_stand)

pub entries_are_composed : (solves : Key → Answer → Type 0) → EntriesAreComposed solves
entries_are_composed solves program aim kept are =
    subst (λ entries. AreComposed program aim entries) (sym are.kept_are)
    (subst (λ p. AreComposed p aim (map slot_solution (slots_by (replay are.log) (aimed p aim)))) are.program_is
    (are_composed (replay are.log) aim (subst (λ p. IsSettled (replay are.log) (aimed p aim)) (sym are.program_is) are.settled)))
