-- What a book keeps in rows: the parts of the present program, slots and outstanding claims.
use Rattle.std.specs.Prelude.{◌≡◌, ℕ, Bool, true, false, List, map, length, slice_get, slice_index_or, is_some}
use Rattle.std.specs.List.{AllZip, position}
use Rattle.std.specs.declared.option.Option.{Option}
use Rattle.std.specs.declared.option.Option.TheVariants.{None, Some}
use Rattle.shape_data.specs.declared.answer.Answer.{Answer}
use Rattle.shape_data.specs.declared.answer.Callee.{Callee}
use Rattle.shape_data.specs.declared.answer.Key.{Key}
use Rattle.shape_data.specs.declared.program.Flow.{Flow}
use Rattle.shape_data.specs.declared.program.Program.{Program}
use Rattle.shape_data.specs.declared.program.StructDef.{StructDef}
use Rattle.shape_data.specs.WellFormed.{IsProgram}
use Rattle.call_components.specs.Reaching.{marked, rows}
use Rattle.component_keys.specs.Components.{same_names}
use Rattle.component_keys.specs.Keys.{Component, flows_of, names_of, key_over, program_components}
use Rattle.component_keys.specs.Tests.{key_test}
use Rattle.composed_keys.specs.Callees.{known_as}
use Rattle.composed_keys.specs.Rows.{AreWithin, component_value}
use Rattle.composed_keys.specs.Used.{AreStructures}
use Rattle.composed_keys.specs.declared.rows.Outer.{Outer as OuterRow}
use Rattle.claim_core.specs.declared.event.Event.{Event as Told}
use Rattle.shape_data.specs.Sizes.{HasProgramSizes}
use Rattle.claim_laws.specs.World.{World, Slot, Out, slot_of}
use Rattle.claim_laws.specs.Logs.{settled_at, replay}
use Rattle.claim_core.specs.Told.{events_of}
use Rattle.summary_book.specs.declared.rows.OutRow.{OutRow}
use Rattle.summary_book.specs.declared.rows.Parts.{Parts}
use Rattle.summary_book.specs.declared.rows.SlotRow.{SlotRow}
use Rattle.summary_book.specs.Aims.{component_calls}
use Rattle.summary_book.specs.Places.{key_at, answer_at}

-- ---- the present program

pub record AreParts (parts : Parts) : Type 0 where
  pub formed : IsProgram parts.program.value
  pub sizes : HasProgramSizes parts.program.value
  pub structures : AreStructures parts.program.value.structs parts.structures
  pub components : map (component_value (flows_of parts.program.value)) parts.components.items ≡ program_components parts.program.value
  pub within : AreWithin (length parts.program.value.procs) parts.components.items
  pub calls : rows parts.calls.items ≡ component_calls parts.program.value

-- the number of the component of these members
abbrev pub place_named : List Component → List (List ℕ) → Option ℕ
place_named parts members = position (λ (part : Component). same_names (names_of part.flows) members) parts

-- the key is that of the component, over the key's own callees
abbrev pub is_fit : Program → Option Component → Key → Bool
is_fit program None key = false
is_fit program (Some part) key = key_test.0 key (key_over program.structs part.flows key.callees)

-- the same of the component of a number, where there is one
abbrev pub is_fit_at : Program → Option ℕ → Key → Bool
is_fit_at program None key = false
is_fit_at program (Some place) key = is_fit program (slice_get (program_components program) place) key

-- the key is one over these structures, of its own procedures and callees
abbrev pub IsComposed : List StructDef → Key → Type 0
IsComposed structs key = key ≡ key_over structs key.procs key.callees

-- ---- slots

pub record IsSlotAt (log : List Told) (slots : List Slot) (program : Program) (part : Component) (row : SlotRow) : Type 0 where
  pub key : Key
  pub answer : Answer
  pub key_is : key_at log row.claimed ≡ Some key
  pub answer_is : answer_at log row.published ≡ Some answer
  pub slot : slot_of slots (names_of part.flows)
      ≡ Some (record { members = names_of part.flows; claim = row.claim; key = key; answer = answer })
  pub fits : row.fits ≡ is_fit program (Some part) key

-- the slot of a component, by its row
abbrev pub IsSlot : List Told → List Slot → Program → Component → Option SlotRow → Type 0
IsSlot log slots program part None = slot_of slots (names_of part.flows) ≡ None
IsSlot log slots program part (Some row) = IsSlotAt log slots program part row

pub record AreSlots (log : List Told) (slots : List Slot) (program : Program) (rows : List (Option SlotRow)) : Type 0 where
  pub lengths : length rows ≡ length (program_components program)
  pub each : (place : ℕ) (part : Component) → slice_get (program_components program) place ≡ Some part
      → IsSlot log slots program part (slice_index_or rows place None)

-- ---- marks

pub record AreMarks (world : World) (marks : List Bool) : Type 0 where
  pub lengths : length marks ≡ length (program_components world.program)
  pub settled : (place : ℕ) → marked marks place ≡ true → is_some (settled_at world place) ≡ true

-- ---- outstanding claims

pub record IsOutRow (log : List Told) (program : Program) (row : OutRow) (claim : Out) : Type 0 where
  pub key_is : key_at log row.claimed ≡ Some claim.key
  pub number : row.number ≡ claim.number
  pub here : row.here ≡ place_named (program_components program) (names_of claim.key.procs)
  pub fits : row.fits ≡ is_fit_at program row.here claim.key

abbrev pub AreOut : List Told → Program → List OutRow → List Out → Type 0
AreOut log program rows out = AllZip (IsOutRow log program) rows out

-- ---- callees

-- a procedure as a callee, with what an answer has for it
abbrev pub known_by : Option Flow → Option Answer → Option Callee
known_by None answer = None
known_by (Some flow) None = None
known_by (Some flow) (Some answer) = Some (known_as flow answer)

-- the answer of a slot
abbrev pub row_answer : List Told → Option SlotRow → Option Answer
row_answer log None = None
row_answer log (Some row) = answer_at log row.published

-- a procedure outside, with what its component's slot has
abbrev pub known_row : Program → List Told → List (Option SlotRow) → OuterRow → Option Callee
known_row program log slots outer =
    known_by (slice_get (flows_of program) outer.number) (row_answer log (slice_index_or slots outer.component None))

-- the parts are those of the present program, and the slots are the world's
pub record IsSight (log : List Told) (parts : Parts) (slots : List (Option SlotRow)) : Type 0 where
  pub program_is : parts.program.value ≡ (replay (events_of log)).program
  pub parts_are : AreParts parts
  pub slots_are : AreSlots log (replay (events_of log)).slots (replay (events_of log)).program slots
