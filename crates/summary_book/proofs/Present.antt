-- Every slot is of a present component.
use Rattle.std.proofs.Common.{◌≡◌, ℕ, Bool, true, false, cond, List, [], ◌∷◌, slice_get, Some, None, Option, refl, All}
use Rattle.std.specs.List.{filter}
use Rattle.std.proofs.lemmas.List.Elements.{All-nil, All-cons, All-filter}
use Rattle.shape_data.specs.declared.answer.Answer.{Answer}
use Rattle.shape_data.specs.declared.program.Program.{Program}
use Rattle.component_keys.specs.Components.{same_names}
use Rattle.component_keys.specs.Keys.{Component, names_of, program_components}
use Rattle.component_keys.proofs.Apart.{names_same}
use Rattle.component_keys.proofs.Basics.{found}
use Rattle.component_keys.proofs.Ordered.{some_passes}
use Rattle.component_keys.proofs.Reach.{any_passes}
use Rattle.claim_laws.specs.World.{World, Event, Slot, Out, Standing, after, but, happened, is_kept, is_present, may_happen, may_publish}
use Rattle.claim_laws.specs.World.{out_of, slot_for, slots_with, standing_named, standings}
use Rattle.claim_laws.specs.Logs.{first_world, replay, replay_from}
use Rattle.claim_laws.proofs.Invariant.{All-put}
use Rattle.claim_laws.proofs.Steps.{by_may, kept_at}
use Rattle.claim_laws.proofs.Still.{part_at}

-- the slot's component is present
abbrev pub IsPresent : Program → Slot → Type 0
IsPresent program slot = is_present program slot ≡ true

-- a component's slot is
pub present_at : (program : Program) (slot : Slot) (place : ℕ) (part : Component) →
    slice_get (program_components program) place ≡ Some part → names_of part.flows ≡ slot.members → IsPresent program slot
present_at program slot place part at same =
    any_passes (λ (one : Component). same_names (names_of one.flows) slot.members) (program_components program) place part at
    ((names_same (names_of part.flows) slot.members).1 same)

-- and it has one
pub part_of : (program : Program) (slot : Slot) → IsPresent program slot →
    (place : ℕ) × (part : Component) × (slice_get (program_components program) place ≡ Some part) × (names_of part.flows ≡ slot.members)
part_of program slot present =
    let there = some_passes (λ (one : Component). same_names (names_of one.flows) slot.members) (program_components program) present in
    (there.0, there.1, there.2, (names_same (names_of there.1.flows) slot.members).0 there.3)

filter_passes : {X : Type 0} (p : X → Bool) (xs : List X) → All (λ x. p x ≡ true) (filter p xs)
filter_passes p [] = All-nil (λ x. p x ≡ true)
filter_passes {X = X} p (x ∷ xs) = by_test (p x) refl (filter_passes p xs)
  where
    by_test : (b : Bool) → p x ≡ b → All (λ y. p y ≡ true) (filter p xs) → All (λ y. p y ≡ true) (cond b (x ∷ filter p xs) (filter p xs))
    by_test true e again = All-cons (λ y. p y ≡ true) x (filter p xs) e again
    by_test false e again = again

kept_present : (world : World) (claim : Out) (answer : Answer) → is_kept world claim ≡ true →
    IsPresent world.program (slot_for claim answer)
kept_present world claim answer kept =
    let named = kept_at world.revision world.slots claim (standing_named world (names_of claim.key.procs)) kept in
    let there =
    found (λ (one : Standing). same_names (names_of one.part.flows) (names_of claim.key.procs)) (standings world) named.0 named.1 in
    present_at world.program (slot_for claim answer) there.1.0 named.0.part (part_at world there.1.0 named.0 there.1.1)
    ((names_same (names_of named.0.part.flows) (names_of claim.key.procs)).0 there.0)

published_present : (world : World) (kept : Bool) (answer : Answer) (o : Option Out) → may_publish world kept o ≡ true →
    All (IsPresent world.program) world.slots →
    All (IsPresent world.program) (slots_with world.slots kept answer o)
published_present world kept answer None may all = all
published_present world false answer (Some claim) may all = all
published_present world true answer (Some claim) may all =
    All-put (IsPresent world.program) (slot_for claim answer) (but world.slots (names_of claim.key.procs))
    (kept_present world claim answer may) (All-filter _ (IsPresent world.program) world.slots all)

-- the slots of a world are of its components
abbrev ArePresent : World → Type 0
ArePresent world = All (IsPresent world.program) world.slots

happened_present : (world : World) (event : Event) → may_happen world event ≡ true → ArePresent world → ArePresent (happened world event)
happened_present world (Event.Revise revision program) may all = filter_passes (is_present program) world.slots
happened_present world (Event.Claim number worker component key) may all = all
happened_present world (Event.Publish number answer kept) may all = published_present world kept answer (out_of world.out number) may all
happened_present world (Event.GiveBack number) may all = all

present_from : (world : World) (log : List Event) → ArePresent world →
    All (IsPresent (replay_from world log).program) (replay_from world log).slots
present_from world [] all = all
present_from world (event ∷ others) all =
    present_from (after world event) others (by_may world event ArePresent (λ may. happened_present world event may all) all)

pub replayed_present : (log : List Event) → All (IsPresent (replay log).program) (replay log).slots
replayed_present log = present_from first_world log (All-nil (IsPresent first_world.program))
