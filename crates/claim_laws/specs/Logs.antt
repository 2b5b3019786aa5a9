-- Logs: the world after them, and which are legal.
use Rattle.std.specs.Prelude.{◌≡◌, ℕ, ◌+◌, List, [], ◌∷◌, IsTrue}
use Rattle.std.specs.declared.option.Option.{Option}
use Rattle.std.specs.declared.option.Option.TheVariants.{Some}
use Rattle.shape_data.specs.declared.answer.Answer.{Answer}
use Rattle.shape_data.specs.declared.answer.Key.{Key}
use Rattle.claim_laws.specs.World.{World, Event, Slot, Out, out_of, may_happen, after, standing_at, settled_in}

-- the empty program, revision 0 and nothing else
abbrev pub first_world : World
first_world = record { revision = 0; program = record { structs = []; procs = [] }; slots = []; out = []; made = 0 }

abbrev pub replay_from : World → List Event → World
replay_from world [] = world
replay_from world (event ∷ others) = replay_from (after world event) others

abbrev pub replay : List Event → World
replay log = replay_from first_world log

-- where an answer is published, it solves the claim's key
abbrev pub IsSolved : (Key → Answer → Type 0) → World → Event → Type 0
IsSolved solves world (Event.Publish number answer kept) = (claim : Out) → out_of world.out number ≡ Some claim → solves claim.key answer
IsSolved solves world _ = Unit {0}

-- each event may happen where it stands, and each answer solves its key
abbrev pub AreLegal : (Key → Answer → Type 0) → World → List Event → Type 0
AreLegal solves world [] = Unit {0}
AreLegal solves world (event ∷ others) =
    IsTrue (may_happen world event) × IsSolved solves world event × AreLegal solves (after world event) others

abbrev pub IsLegal : (Key → Answer → Type 0) → List Event → Type 0
IsLegal solves log = AreLegal solves first_world log

-- no event in the list is a revision
abbrev pub HasNoRevise : List Event → Type 0
HasNoRevise [] = Unit {0}
HasNoRevise (Event.Revise revision program ∷ others) = ⊥
HasNoRevise (_ ∷ others) = HasNoRevise others

-- the number of answers published
abbrev pub published : List Event → ℕ
published [] = 0
published (Event.Publish number answer kept ∷ others) = published others + 1
published (_ ∷ others) = published others

-- the slot under which a component is settled
abbrev pub settled_at : World → ℕ → Option Slot
settled_at world component = settled_in (standing_at world component)
