-- What is settled stays settled, and what is due stays due, where the slots of the settled components stay.
use Rattle.std.proofs.Common.{◌≡◌, ℕ, zero, suc, Bool, true, false, cond, List, [], ◌∷◌, ◌++◌, map, length, slice_get, Some, None, Option}
use Rattle.std.proofs.Common.{refl, sym, ap, ◌∙◌, subst, ⊎_elim, option_map}
use Rattle.std.specs.List.{AllZip}
use Rattle.std.proofs.lemmas.List.Elements.{AllZip-push}
use Rattle.std.proofs.lemmas.List.{append_assoc, append-nil, map-append}
use Rattle.shape_data.specs.declared.answer.Callee.{Callee}
use Rattle.shape_data.specs.declared.answer.Key.{Key}
use Rattle.shape_data.specs.declared.program.StructDef.{StructDef}
use Rattle.component_keys.specs.Keys.{Component, Outer, program_components, names_of, key_over}
use Rattle.component_keys.specs.Tests.{key_test}
use Rattle.claim_laws.specs.World.{World, Slot, Standing, slot_of, both, given_by, settled_in, given, due_over, settled_by, standing_of}
use Rattle.claim_laws.specs.World.{standings_from, standings, standing_at}
use Rattle.component_keys.proofs.Basics.{not_none, mapped_some, at_left, at_end, at_push, at_map}
use Rattle.component_keys.proofs.Apart.{components_differ}

-- what was known of a component is still known
pub record IsStill (old new : Standing) : Type 0 where
  pub part : new.part ≡ old.part
  pub due : (key : Key) → old.due ≡ Some key → new.due ≡ Some key
  pub settled : (slot : Slot) → old.settled ≡ Some slot → new.settled ≡ Some slot

settled_in-still : (old new : List Standing) (i : ℕ) (slot : Slot) → AllZip IsStill old new → settled_in (slice_get old i) ≡ Some slot →
    settled_in (slice_get new i) ≡ Some slot
settled_in-still [] [] i slot still e = not_none e
settled_in-still [] (y ∷ new) i slot still e = absurd still
settled_in-still (x ∷ old) [] i slot still e = absurd still
settled_in-still (x ∷ old) (y ∷ new) zero slot still e = still.0.settled slot e
settled_in-still (x ∷ old) (y ∷ new) (suc i) slot still e = settled_in-still old new i slot still.1 e

given_by-still : (outer : Outer) (old new : Option Slot) → ((slot : Slot) → old ≡ Some slot → new ≡ Some slot) → (callee : Callee) →
    given_by outer old ≡ Some callee → given_by outer new ≡ Some callee
given_by-still outer None new still callee e = not_none e
given_by-still outer (Some slot) new still callee e = rw (still slot refl) e

both-still : (first later : Option Callee) (others rest : Option (List Callee)) →
    ((callee : Callee) → first ≡ Some callee → later ≡ Some callee) →
    ((callees : List Callee) → others ≡ Some callees → rest ≡ Some callees) → (all : List Callee) → both first others ≡ Some all →
    both later rest ≡ Some all
both-still None later others rest one more all e = not_none e
both-still (Some callee) later None rest one more all e = not_none e
both-still (Some callee) later (Some callees) rest one more all e = rw (one callee refl, more callees refl) e

given-still : (old new : List Standing) (outer : List Outer) → AllZip IsStill old new → (callees : List Callee) →
    given old outer ≡ Some callees → given new outer ≡ Some callees
given-still old new [] still callees e = e
given-still old new (first ∷ others) still callees e =
    both-still (given_by first (settled_in (slice_get old first.component))) (given_by first (settled_in (slice_get new first.component)))
    (given old others) (given new others)
    (given_by-still first (settled_in (slice_get old first.component)) (settled_in (slice_get new first.component))
    (λ slot. settled_in-still old new first.component slot still))
    (given-still old new others still) callees e

due-still : (structs : List StructDef) (part : Component) (old new : List Standing) → AllZip IsStill old new → (key : Key) →
    due_over structs old part ≡ Some key → due_over structs new part ≡ Some key
due-still structs part old new still key e =
    let known = mapped_some (key_over structs part.flows) (given old part.outer) key e in
    rw (given-still old new part.outer still known.0 known.1) (ap (λ k. Some k) (sym known.2))

settled_by-still : (old new : Option Slot) (due later : Option Key) → ((key : Key) → due ≡ Some key → later ≡ Some key) →
    ((slot : Slot) → settled_by old due ≡ Some slot → new ≡ Some slot) → (slot : Slot) → settled_by old due ≡ Some slot →
    settled_by new later ≡ Some slot
settled_by-still None new due later same stays slot e = not_none e
settled_by-still (Some own) new None later same stays slot e = not_none e
settled_by-still (Some own) new (Some key) later same stays slot e = by_test (key_test.0 own.key key) refl e (stays slot e)
  where
    by_test : (b : Bool) → key_test.0 own.key key ≡ b → cond b (Some own) None ≡ Some slot → new ≡ Some slot →
        settled_by new later ≡ Some slot
    by_test true t at is_new = rw (is_new ∙ sym at, same key refl) (rw t at)
    by_test false t at is_new = not_none at

-- a component before stays where it is
pub stays_at : (structs : List StructDef) (slots : List Slot) (rest : List Component) (before : List Standing) (i : ℕ)
    (standing : Standing) →
    slice_get before i ≡ Some standing → slice_get (standings_from structs slots rest before) i ≡ Some standing
stays_at structs slots [] before i standing e = e
stays_at structs slots (part ∷ rest) before i standing e =
    stays_at structs slots rest (before ++ standing_of structs slots before part ∷ []) i standing
    (at_left before (standing_of structs slots before part ∷ []) i standing e)

-- the slots of the settled components are still there
abbrev pub SlotsStay : List Standing → List Slot → Type 0
SlotsStay all slots = (i : ℕ) (standing : Standing) (slot : Slot) → slice_get all i ≡ Some standing → standing.settled ≡ Some slot →
    slot_of slots (names_of standing.part.flows) ≡ Some slot

pub standings-still : (structs : List StructDef) (slots later : List Slot) (rest : List Component) (old new : List Standing) →
    AllZip IsStill old new →
    SlotsStay (standings_from structs slots rest old) later →
    AllZip IsStill (standings_from structs slots rest old) (standings_from structs later rest new)
standings-still structs slots later [] old new still stay = still
standings-still structs slots later (part ∷ rest) old new still stay =
    let one : Standing = standing_of structs slots old part in
    let other : Standing = standing_of structs later new part in
    let same_due : (key : Key) → one.due ≡ Some key → other.due ≡ Some key = due-still structs part old new still in
    let first : IsStill one other = record {
      part = refl;
      due = same_due;
      settled = settled_by-still (slot_of slots (names_of part.flows)) (slot_of later (names_of part.flows)) one.due other.due same_due
          (λ slot e. stay (length old) one slot (stays_at structs slots rest (old ++ one ∷ []) (length old) one (at_end old one)) e);
    } in
    standings-still structs slots later rest (old ++ one ∷ []) (new ++ other ∷ []) (AllZip-push IsStill old new one other still first) stay

-- ---- what is known of each component

-- it is settled by its slot and what it is due, and what it is due is a key over its procedures
pub record IsStanding (structs : List StructDef) (slots : List Slot) (standing : Standing) : Type 0 where
  pub settled : standing.settled ≡ settled_by (slot_of slots (names_of standing.part.flows)) standing.due
  pub due : (key : Key) → standing.due ≡ Some key → (callees : List Callee) × (key ≡ key_over structs standing.part.flows callees)

abbrev pub AreStandings : List StructDef → List Slot → List Standing → Type 0
AreStandings structs slots all = (i : ℕ) (standing : Standing) → slice_get all i ≡ Some standing → IsStanding structs slots standing

IsStanding-new : (structs : List StructDef) (slots : List Slot) (before : List Standing) (part : Component) →
    IsStanding structs slots (standing_of structs slots before part)
IsStanding-new structs slots before part = record {
  settled = refl;
  due = λ key e. let known = mapped_some (key_over structs part.flows) (given before part.outer) key e in (known.0, known.2);
}

AreStandings-from : (structs : List StructDef) (slots : List Slot) (rest : List Component) (before : List Standing) →
    AreStandings structs slots before → AreStandings structs slots (standings_from structs slots rest before)
AreStandings-from structs slots [] before known = known
AreStandings-from structs slots (part ∷ rest) before known =
    AreStandings-from structs slots rest (before ++ standing_of structs slots before part ∷ [])
    (λ i standing e. ⊎_elim (known i standing)
    (λ end. subst (IsStanding structs slots) (sym end.1) (IsStanding-new structs slots before part))
    (at_push before (standing_of structs slots before part) i standing e))

pub standings_known : (world : World) → AreStandings world.program.structs world.slots (standings world)
standings_known world =
    AreStandings-from world.program.structs world.slots (program_components world.program) [] (λ i standing e. not_none e)

-- ---- the components are those of the program

parts_from : (structs : List StructDef) (slots : List Slot) (rest : List Component) (before : List Standing) →
    map (λ standing. standing.part) (standings_from structs slots rest before) ≡ map (λ standing. standing.part) before ++ rest
parts_from structs slots [] before = sym (append-nil (map (λ standing. standing.part) before))
parts_from structs slots (part ∷ rest) before =
    let new : Standing = standing_of structs slots before part in
    parts_from structs slots rest (before ++ new ∷ [])
    ∙ ap (λ front. front ++ rest) (map-append (λ standing. standing.part) before (new ∷ [])) ∙
    append_assoc (map (λ standing. standing.part) before) (part ∷ []) rest

-- the standings are of the program's components
pub parts_all : (world : World) → map (λ standing. standing.part) (standings world) ≡ program_components world.program
parts_all world = parts_from world.program.structs world.slots (program_components world.program) []

pub part_at : (world : World) (i : ℕ) (standing : Standing) → standing_at world i ≡ Some standing →
    slice_get (program_components world.program) i ≡ Some standing.part
part_at world i standing e =
    ap (λ all. slice_get all i) (sym (parts_from world.program.structs world.slots (program_components world.program) [])) ∙
    at_map (λ standing. standing.part) (standings world) i ∙ ap (option_map (λ standing. standing.part)) e

-- components of the same members stand at one place
pub standings_apart : (world : World) (i j : ℕ) (one other : Standing) → standing_at world i ≡ Some one → standing_at world j ≡ Some other →
    names_of one.part.flows ≡ names_of other.part.flows → i ≡ j
standings_apart world i j one other at_i at_j same =
    components_differ world.program i j one.part other.part (part_at world i one at_i) (part_at world j other at_j) same
