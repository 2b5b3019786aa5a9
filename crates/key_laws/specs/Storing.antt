-- Worlds whose program is well formed, and whose keys and answers are within the limits of a store.
use Rattle.std.specs.Prelude.{◌≡◌, ℕ, List, All}
use Rattle.std.specs.declared.option.Option.TheVariants.{Some}
use Rattle.shape_data.specs.declared.answer.Answer.{Answer}
use Rattle.shape_data.specs.declared.answer.Key.{Key}
use Rattle.shape_data.specs.WellFormed.{IsProgram, IsStorableAnswer, IsStorableKey}
use Rattle.claim_laws.specs.Logs.{IsLegal, IsSolved, replay}
use Rattle.claim_laws.specs.World.{Event, Out, Slot, Standing, World, after, standing_at}

-- a slot's key and answer are within the limits
pub record IsStorableSlot (slot : Slot) : Type 0 where
  pub key : IsStorableKey slot.key
  pub answer : IsStorableAnswer slot.key slot.answer

-- the program is well formed, and the slots and the keys of outstanding claims are within the limits
pub record IsStorableWorld (world : World) : Type 0 where
  pub program : IsProgram world.program
  pub slots : All IsStorableSlot world.slots
  pub out : All (λ (claim : Out). IsStorableKey claim.key) world.out

-- the program of a revision is well formed
abbrev pub IsFormedEvent : Event → Type 0
IsFormedEvent (Event.Revise revision program) = IsProgram program
IsFormedEvent _ = Unit {0}

-- each key that a component is due is within the limits
abbrev pub DueKeysAreStorable : Type 0
DueKeysAreStorable =
    (world : World) (component : ℕ) (standing : Standing) (key : Key) → IsStorableWorld world →
    standing_at world component ≡ Some standing → standing.due ≡ Some key →
    IsStorableKey key

-- each event keeps this, where programs are well formed and published answers are within the limits
abbrev pub EventsKeepStorable : Type 0
EventsKeepStorable = (world : World) (event : Event) → IsStorableWorld world → IsFormedEvent event → IsSolved IsStorableAnswer world event →
    IsStorableWorld (after world event)

-- so it holds after every legal log of well-formed programs, where an answer that is right for a key is within the limits
abbrev pub LegalWorldsAreStorable : (Key → Answer → Type 0) → Type 0
LegalWorldsAreStorable solves =
    ((key : Key) (answer : Answer) → solves key answer → IsStorableAnswer key answer) → (log : List Event) → IsLegal solves log →
    All IsFormedEvent log → IsStorableWorld (replay log)
