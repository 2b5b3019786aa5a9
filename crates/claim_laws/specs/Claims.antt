-- What holds of claims after every legal log.
use Rattle.std.specs.Prelude.{◌≡◌, ℕ, ◌≤◌, List, ◌∷◌, ◌++◌, All, length, slice_get}
use Rattle.std.specs.List.{Contains}
use Rattle.std.specs.declared.option.Option.TheVariants.{Some}
use Rattle.shape_data.specs.declared.answer.Answer.{Answer}
use Rattle.shape_data.specs.declared.answer.Key.{Key}
use Rattle.component_keys.specs.Keys.{Component, program_components, names_of}
use Rattle.claim_laws.specs.World.{World, Event, Slot, Standing, slot_of, due_over, settled_by, standings, standing_at}
use Rattle.claim_laws.specs.Logs.{replay, IsLegal, HasNoRevise, published, settled_at}

-- each slot's answer solves its key
abbrev pub SlotsSolve : (Key → Answer → Type 0) → Type 0
SlotsSolve solves = (log : List Event) → IsLegal solves log → All (λ slot. solves slot.key slot.answer) (replay log).slots

-- there are at most as many slots as answers published
abbrev pub SlotsWerePublished : Type 0
SlotsWerePublished = (log : List Event) → length (replay log).slots ≤ published log

-- a settled component stays settled, with the same answer, until the next revision
abbrev pub SettledStays : Type 0
SettledStays =
    (before middle : List Event) (component : ℕ) (slot : Slot) → HasNoRevise middle → settled_at (replay before) component ≡ Some slot →
    settled_at (replay (before ++ middle)) component ≡ Some slot

-- between two claims of a component in one revision the first was given back
abbrev pub ClaimedOnce : (Key → Answer → Type 0) → Type 0
ClaimedOnce solves =
    (before middle rest : List Event) (first second one_worker other_worker component : ℕ) (one other : Key) →
    IsLegal solves
    (before ++ (Event.Claim first one_worker component one ∷ (middle ++ (Event.Claim second other_worker component other ∷ rest)))) →
    HasNoRevise middle →
    Contains middle (Event.GiveBack first)

-- a component is claimed only where it has no slot, or where its procedures, the structures used or its callees differ from those in its
-- slot's key
abbrev pub ClaimedWhereNew : (Key → Answer → Type 0) → Type 0
ClaimedWhereNew solves =
    (before rest : List Event) (number worker component : ℕ) (key : Key) (slot : Slot) →
    IsLegal solves (before ++ (Event.Claim number worker component key ∷ rest)) →
    slot_of (replay before).slots (names_of key.procs) ≡ Some slot → slot.key.procs ≡ key.procs → slot.key.structs ≡ key.structs →
    slot.key.callees ≡ key.callees → ⊥

-- what is claimed are the component's procedures
abbrev pub ClaimedArePresent : (Key → Answer → Type 0) → Type 0
ClaimedArePresent solves =
    (before rest : List Event) (number worker component : ℕ) (key : Key) →
    IsLegal solves (before ++ (Event.Claim number worker component key ∷ rest)) →
    (part : Component) × (slice_get (program_components (replay before).program) component ≡ Some part) × (key.procs ≡ part.flows)

-- a component is due the key that is made of what its callees are settled with, and it is settled exactly by a slot for that key
pub record IsAsDefined (world : World) (standing : Standing) : Type 0 where
  pub due : standing.due ≡ due_over world.program.structs (standings world) standing.part
  pub settled : standing.settled ≡ settled_by (slot_of world.slots (names_of standing.part.flows)) standing.due

abbrev pub StandingsAreAsDefined : Type 0
StandingsAreAsDefined = (world : World) (component : ℕ) (standing : Standing) → standing_at world component ≡ Some standing →
    IsAsDefined world standing
