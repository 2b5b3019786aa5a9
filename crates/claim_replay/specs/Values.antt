-- Worlds with what their shared parts hold, and how components stand in them.
use Rattle.std.specs.List.{filter_map, list_any}
use Rattle.std.specs.Prelude.{◌≡◌, ℕ, Bool, List, [], ◌∷◌, map, length, slice_get}
use Rattle.std.specs.declared.option.Option.{Option}
use Rattle.std.specs.declared.option.Option.TheVariants.{None, Some}
use Rattle.shape_data.specs.declared.answer.Callee.{Callee}
use Rattle.shape_data.specs.declared.program.Flow.{Flow}
use Rattle.shape_data.specs.declared.program.Program.{Program}
use Rattle.shape_data.specs.WellFormed.{IsProgram}
use Rattle.component_keys.specs.Components.{same_names}
use Rattle.shape_data.specs.declared.answer.Key.{Key}
use Rattle.component_keys.specs.Keys.{Outer, flows_of, names_of, program_components}
use Rattle.composed_keys.specs.declared.rows.Component.{Component as Row}
use Rattle.composed_keys.specs.declared.rows.Outer.{Outer as OuterRow}
use Rattle.composed_keys.specs.declared.rows.Structures.{Structures}
use Rattle.composed_keys.specs.Rows.{component_value, outer_value, AreWithin}
use Rattle.composed_keys.specs.Used.{AreStructures}
use Rattle.call_components.specs.Tables.{at_place}
use Rattle.claim_core.specs.declared.event.Event.{Event as Told}
use Rattle.claim_core.specs.declared.event.Event.TheVariants as told
use Rattle.claim_replay.specs.declared.present.Present.{Present}
use Rattle.claim_replay.specs.declared.standing.Standing.{Standing as Known}
use Rattle.claim_replay.specs.declared.world.Out.{Out as OutRow}
use Rattle.claim_replay.specs.declared.world.Slot.{Slot as SlotRow}
use Rattle.claim_replay.specs.declared.world.World.{World as WorldRow}
use Rattle.claim_laws.specs.declared.published.Published.{Published}
use Rattle.claim_laws.specs.World.{World, Slot, Out, Standing, both, given_by, is_due, outcome_at, standing_at}

abbrev pub slot_value : SlotRow → Slot
slot_value slot = record { members = slot.members; claim = slot.claim; key = slot.key.value; answer = slot.answer.value }

abbrev pub out_value : OutRow → Out
out_value claim =
    record { number = claim.number; worker = claim.worker; component = claim.component; revision = claim.revision; key = claim.key.value }

abbrev pub world_value : WorldRow → World
world_value world =
    record {
      revision = world.revision;
      program = world.program.value;
      slots = map slot_value world.slots;
      out = map out_value world.out;
      made = world.made;
    }

-- the program of a revision is well formed
abbrev pub IsFormed : Told → Type 0
IsFormed (told.Revise revision program) = IsProgram program.value
IsFormed _ = Unit {0}

-- the rows are the program's components, and the structures are its own
pub record IsPresent (program : Program) (rows : List Row) (structures : Structures) : Type 0 where
  pub formed : IsProgram program
  pub components : map (component_value (flows_of program)) rows ≡ program_components program
  pub within : AreWithin (length program.procs) rows
  pub used : AreStructures program.structs structures

-- where a component is settled, by the place of its slot
abbrev pub place_settled : Option Known → Option ℕ
place_settled None = None
place_settled (Some known) = known.settled

-- the slot under which the component of a place is settled
abbrev pub slot_at : List Slot → List Known → ℕ → Option Slot
slot_at slots known place = at_place slots (place_settled (slice_get known place))

-- a callee that is a procedure, where its component is settled
abbrev pub given_of : Option Outer → Option Slot → Option Callee
given_of None slot = None
given_of (Some outer) slot = given_by outer slot

-- a callee by its row
abbrev pub given_row : List Flow → List Slot → List Known → OuterRow → Option Callee
given_row flows slots known outer = given_of (outer_value flows outer) (slot_at slots known outer.component)

-- the callees by their rows, where all their components are settled
abbrev pub given_rows : List Flow → List Slot → List Known → List OuterRow → Option (List Callee)
given_rows flows slots known [] = Some []
given_rows flows slots known (outer ∷ others) = both (given_row flows slots known outer) (given_rows flows slots known others)

-- what is known of the first components is how they stand
pub record AreKnown (world : World) (known : List Known) : Type 0 where
  pub due : (place : ℕ) (one : Known) (standing : Standing) → slice_get known place ≡ Some one → standing_at world place ≡ Some standing
      → one.due ≡ standing.due
  pub settled : (place : ℕ) (one : Known) (standing : Standing) → slice_get known place ≡ Some one → standing_at world place ≡ Some standing
      → at_place world.slots one.settled ≡ standing.settled

-- in every world of this program and these slots
abbrev pub AreKnownFor : Program → List Slot → List Known → Type 0
AreKnownFor program slots known = (world : World) → world.program ≡ program → world.slots ≡ slots → AreKnown world known

-- the rows and structures are those of the world's program
abbrev pub IsWhole : Present → Type 0
IsWhole present = IsPresent present.world.program.value present.rows.items present.structures

-- the names of a row's procedures
abbrev pub row_names : Program → Row → List (List ℕ)
row_names program row = names_of (filter_map (slice_get (flows_of program)) row.members.items)

-- the slot is of the component of a row
abbrev pub is_of_rows : Program → List Row → Slot → Bool
is_of_rows program rows slot = list_any (λ row. same_names (row_names program row) slot.members) rows

-- the key is due
abbrev pub due_is : Option Key → Key → Bool
due_is due key = is_due due key

-- what becomes of an answer to a claim of the component of a row, by how that stands
abbrev pub outcome_by : WorldRow → OutRow → Row → Known → Published
outcome_by world claim row known =
    outcome_at (world.revision) (map slot_value world.slots) (out_value claim)
    (Some (record {
      part = component_value (flows_of world.program.value) row;
      due = known.due;
      settled = at_place (map slot_value world.slots) known.settled;
    }))
