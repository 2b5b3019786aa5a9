-- The world of claims: which program is present, what is known of its components, which claims are outstanding.
use Rattle.std.specs.Prelude.{ℕ, ◌+◌, nat_lt, Bool, true, false, ◌&&◌, not, ◌==◌, List, [], ◌∷◌, ◌++◌, slice_get, if◌then◌else◌, is_some}
use Rattle.std.specs.List.{list_any, filter, find}
use Rattle.std.specs.Option.{option_map}
use Rattle.std.specs.declared.option.Option.{Option}
use Rattle.std.specs.declared.option.Option.TheVariants.{None, Some}
use Rattle.shape_data.specs.declared.answer.Answer.{Answer}
use Rattle.shape_data.specs.declared.answer.Callee.{Callee}
use Rattle.shape_data.specs.declared.answer.Key.{Key}
use Rattle.shape_data.specs.declared.program.Program.{Program}
use Rattle.shape_data.specs.declared.program.StructDef.{StructDef}
use Rattle.claim_laws.specs.declared.published.Published.{Published}
use Rattle.claim_laws.specs.declared.published.Published.TheVariants.{Kept, Stale}
use Rattle.claim_laws.specs.declared.published.Seen.TheVariants.{Gone, Changed, Settled, Later}
use Rattle.component_keys.specs.Components.{same_names}
use Rattle.component_keys.specs.Keys.{Component, Outer, program_components, names_of, specs_in, key_over}
use Rattle.component_keys.specs.Tests.{key_test, program_test, flows_test}

-- what was answered for a component: its procedures' names, the claim's number, its key and the answer
pub record Slot : Type 0 where
  pub members : List (List ℕ)
  pub claim : ℕ
  pub key : Key
  pub answer : Answer

-- an outstanding claim
pub record Out : Type 0 where
  pub number : ℕ
  pub worker : ℕ
  pub component : ℕ
  pub revision : ℕ
  pub key : Key

pub record World : Type 0 where
  pub revision : ℕ
  pub program : Program
  pub slots : List Slot
  pub out : List Out
  pub made : ℕ

pub data Event : Type 0 where
  Revise : (revision : ℕ) (program : Program) → Event
  Claim : (number worker component : ℕ) (key : Key) → Event
  Publish : (number : ℕ) (answer : Answer) (kept : Bool) → Event
  GiveBack : (number : ℕ) → Event

-- ---- settled components

-- a component as it stands: the key that it is due, where all its callees are settled, and its slot, where it is settled
pub record Standing : Type 0 where
  pub part : Component
  pub due : Option Key
  pub settled : Option Slot

-- the slot of a component
abbrev pub slot_of : List Slot → List (List ℕ) → Option Slot
slot_of slots members = find (λ slot. same_names slot.members members) slots

-- a list with one more in front, where there are both
abbrev pub both : Option Callee → Option (List Callee) → Option (List Callee)
both None others = None
both (Some first) None = None
both (Some first) (Some others) = Some (first ∷ others)

-- a callee with its specs, where its component is settled
abbrev pub given_by : Outer → Option Slot → Option Callee
given_by outer None = None
given_by outer (Some slot) = Some (record { name = outer.name; params = outer.params; specs = specs_in slot.answer outer.name })

-- the slot of a component that is settled
abbrev pub settled_in : Option Standing → Option Slot
settled_in None = None
settled_in (Some standing) = standing.settled

-- the callees with their specs, where all their components are settled
abbrev pub given : List Standing → List Outer → Option (List Callee)
given before [] = Some []
given before (first ∷ others) = both (given_by first (settled_in (slice_get before first.component))) (given before others)

-- the key that a component is due
abbrev pub due_over : List StructDef → List Standing → Component → Option Key
due_over structs before part = option_map (key_over structs part.flows) (given before part.outer)

-- settled is what has a slot for the key that it is due
abbrev pub settled_by : Option Slot → Option Key → Option Slot
settled_by None due = None
settled_by (Some slot) None = None
settled_by (Some slot) (Some key) = if key_test.0 slot.key key then Some slot else None

abbrev pub standing_of : List StructDef → List Slot → List Standing → Component → Standing
standing_of structs slots before part =
    record {
      part = part;
      due = due_over structs before part;
      settled = settled_by (slot_of slots (names_of part.flows)) (due_over structs before part);
    }

-- each component over those before it
abbrev pub standings_from : List StructDef → List Slot → List Component → List Standing → List Standing
standings_from structs slots [] before = before
standings_from structs slots (part ∷ others) before =
    standings_from structs slots others (before ++ standing_of structs slots before part ∷ [])

-- the components of the present program, callees first
abbrev pub standings : World → List Standing
standings world = standings_from world.program.structs world.slots (program_components world.program) []

-- the standing of the component of a number
abbrev pub standing_at : World → ℕ → Option Standing
standing_at world component = slice_get (standings world) component

-- the standing of the component of these members
abbrev pub standing_named : World → List (List ℕ) → Option Standing
standing_named world members = find (λ standing. same_names (names_of standing.part.flows) members) (standings world)

-- ---- events

abbrev pub out_of : List Out → ℕ → Option Out
out_of out number = find (λ claim. claim.number == number) out

abbrev pub without : List Out → ℕ → List Out
without out number = filter (λ claim. not (claim.number == number)) out

-- the slot put behind those of lesser claims
abbrev pub put_slot : Slot → List Slot → List Slot
put_slot slot [] = slot ∷ []
put_slot slot (first ∷ others) = if nat_lt slot.claim first.claim then slot ∷ first ∷ others else first ∷ put_slot slot others

-- the slots but that of these members
abbrev pub but : List Slot → List (List ℕ) → List Slot
but slots members = filter (λ slot. not (same_names slot.members members)) slots

abbrev pub slot_for : Out → Answer → Slot
slot_for claim answer = record { members = names_of claim.key.procs; claim = claim.number; key = claim.key; answer = answer }

-- the slot's claim is a later one
abbrev pub is_later : Option Slot → ℕ → Bool
is_later None number = false
is_later (Some slot) number = nat_lt number slot.claim

-- the key is due
abbrev pub is_due : Option Key → Key → Bool
is_due None key = false
is_due (Some due) key = key_test.0 due key

-- the slot is of a later claim
abbrev pub outcome_of_slot : Option Slot → ℕ → Published
outcome_of_slot None number = Kept
outcome_of_slot (Some slot) number = if nat_lt number slot.claim then Stale (Later slot.claim) else Kept

-- where the component is settled, and where it is not
abbrev pub outcome_settled : Option Slot → Published → Published
outcome_settled None unsettled = unsettled
outcome_settled (Some slot) unsettled = Stale (Settled slot.claim)

-- in this order: the component is gone; it is settled; the claim's key is due; the claim's procedures are not the present ones; its slot is
-- of a later claim
abbrev pub outcome_at : ℕ → List Slot → Out → Option Standing → Published
outcome_at revision slots claim None = Stale (Gone revision)
outcome_at revision slots claim (Some standing) =
    outcome_settled standing.settled
    (if is_due standing.due claim.key then Kept
    else if flows_test.0 claim.key.procs standing.part.flows
    then outcome_of_slot (slot_of slots (names_of standing.part.flows)) claim.number
    else Stale (Changed revision))

abbrev pub outcome : World → Out → Published
outcome world claim = outcome_at world.revision world.slots claim (standing_named world (names_of claim.key.procs))

abbrev pub is_kept_outcome : Published → Bool
is_kept_outcome Kept = true
is_kept_outcome _ = false

abbrev pub is_kept : World → Out → Bool
is_kept world claim = is_kept_outcome (outcome world claim)

-- unsettled, and the key is due
abbrev pub is_claimable : Option Standing → Key → Bool
is_claimable None key = false
is_claimable (Some standing) key = not (is_some standing.settled) && is_due standing.due key

abbrev pub same_bool : Bool → Bool → Bool
same_bool true b = b
same_bool false b = not b

-- an answer may be published to a claim that is outstanding, with the mark by the order of cases
abbrev pub may_publish : World → Bool → Option Out → Bool
may_publish world kept None = false
may_publish world kept (Some claim) = same_bool kept (is_kept world claim)

-- the event may happen here; what is said of answers is left aside
abbrev pub may_happen : World → Event → Bool
may_happen world (Event.Revise revision program) = not (program_test.0 program world.program) && revision == world.revision + 1
may_happen world (Event.Claim number worker component key) =
    number == world.made + 1
    && (is_claimable (standing_at world component) key && not (list_any (λ claim. key_test.0 claim.key key) world.out))
may_happen world (Event.Publish number answer kept) = may_publish world kept (out_of world.out number)
may_happen world (Event.GiveBack number) = is_some (out_of world.out number)

-- the component is one of the program's
abbrev pub is_present : Program → Slot → Bool
is_present program slot = list_any (λ part. same_names (names_of part.flows) slot.members) (program_components program)

-- the slots after an answer to a claim
abbrev pub slots_with : List Slot → Bool → Answer → Option Out → List Slot
slots_with slots kept answer None = slots
slots_with slots false answer (Some claim) = slots
slots_with slots true answer (Some claim) = put_slot (slot_for claim answer) (but slots (names_of claim.key.procs))

abbrev pub happened : World → Event → World
happened world (Event.Revise revision program) =
    record { revision = revision; program = program; slots = filter (is_present program) world.slots; out = world.out; made = world.made }
happened world (Event.Claim number worker component key) =
    record {
      revision = world.revision;
      program = world.program;
      slots = world.slots;
      out = world.out ++ record { number = number; worker = worker; component = component; revision = world.revision; key = key } ∷ [];
      made = number;
    }
happened world (Event.Publish number answer kept) =
    record {
      revision = world.revision;
      program = world.program;
      slots = slots_with world.slots kept answer (out_of world.out number);
      out = without world.out number;
      made = world.made;
    }
happened world (Event.GiveBack number) =
    record { revision = world.revision; program = world.program; slots = world.slots; out = without world.out number; made = world.made }

-- the world after an event; one that may not happen changes nothing
abbrev pub after : World → Event → World
after world event = if may_happen world event then happened world event else world
