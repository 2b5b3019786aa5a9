-- What contracts see of a book.
use Rattle.std.specs.Prelude.{List, ◌==◌, ◌&&◌, Bool}
use Rattle.std.specs.List.{list_any}
use Rattle.component_keys.specs.Tests.{key_test}
use Rattle.claim_core.specs.Views.{Claimed, Solution}
use Rattle.claim_laws.specs.World.{World, Event, Slot, Out}

-- the log, and for each component of the present program whether it is marked as settled
pub record Contents : Type 0 where
  pub log : List Event
  pub marks : List Bool

-- the outstanding claim has the number and the key
abbrev pub is_claim : Claimed → Out → Bool
is_claim claim out = out.number == claim.number && key_test.0 out.key claim.key

-- an outstanding claim has the number and the key
abbrev pub is_own : World → Claimed → Bool
is_own world claim = list_any (is_claim claim) world.out

-- a slot's key with its answer
abbrev pub slot_solution : Slot → Solution
slot_solution slot = record { key = slot.key; answer = slot.answer }
