-- What a book keeps.
use Rattle.std.specs.Prelude.{◌≡◌, ℕ, ◌+◌, ◌≤◌, All, Bool, List, [], ◌∷◌, if◌then◌else◌}
use Rattle.std.specs.Global.{Vec}
use Rattle.std.specs.List.{count_by}
use Rattle.std.specs.Vec.{vec_len, vec_capacity}
use Rattle.std.specs.declared.option.Option.{Option}
use Rattle.shape_data.specs.declared.answer.Answer.{Answer}
use Rattle.shape_data.specs.declared.answer.Key.{Key}
use Rattle.shape_data.specs.declared.program.Program.{Program}
use Rattle.component_keys.specs.Tests.{program_test}
use Rattle.claim_core.specs.declared.event.Event.{Event as Told}
use Rattle.claim_core.specs.Told.{events_of}
use Rattle.claim_laws.specs.World.{World, Event}
use Rattle.claim_laws.specs.Logs.{replay, IsLegal}
use Rattle.key_laws.specs.Storing.{IsFormedEvent}
use Rattle.summary_book.specs.declared.answers.Met.{Met}
use Rattle.summary_book.specs.declared.answers.Met.TheVariants.{Same, Revised}
use Rattle.summary_book.specs.declared.rows.OutRow.{OutRow}
use Rattle.summary_book.specs.declared.rows.Parts.{Parts}
use Rattle.summary_book.specs.declared.rows.SlotRow.{SlotRow}
use Rattle.summary_book.specs.Rows.{AreParts, AreSlots, AreMarks, AreOut}

-- the rows are those of the world
pub record AreRows (world : World) (log : List Told) (parts : Parts) (slots : List (Option SlotRow)) (marks : List Bool) (out : List OutRow)
    (revision made : ℕ) : Type 0 where
  pub program_is : parts.program.value ≡ world.program
  pub parts_are : AreParts parts
  pub slots_are : AreSlots log world.slots world.program slots
  pub marks_are : AreMarks world marks
  pub out_are : AreOut log world.program out world.out
  pub revision_is : revision ≡ world.revision
  pub made_is : made ≡ world.made

-- the log is legal and its programs are well formed, the rows are the world's, and there is room for the end of each outstanding claim
pub record IsBook (solves : Key → Answer → Type 0) (log : Vec Told) (parts : Parts) (slots : Vec (Option SlotRow)) (marks : Vec Bool)
    (out : Vec OutRow) (revision made : ℕ) : Type 0 where
  pub legal : IsLegal solves (events_of log.items)
  pub formed : All IsFormedEvent (events_of log.items)
  pub rows_are : AreRows (replay (events_of log.items)) log.items parts slots.items marks.items out.items revision made
  pub room : vec_len log + vec_len out ≤ vec_capacity log

abbrev pub count_marked : List Bool → ℕ
count_marked marks = count_by (λ (mark : Bool). mark) marks

-- whether a program is another one than the present
abbrev pub met_by : World → Program → Met
met_by world program = if program_test.0 program world.program then Same else Revised (world.revision + 1)

-- the event of a program that was met
abbrev pub met_events : Program → Met → List Event
met_events program Same = []
met_events program (Revised revision) = Event.Revise revision program ∷ []

-- the marks after a program was met: as before, or of no component
abbrev pub AreMetMarks : List Bool → List Bool → Met → Type 0
AreMetMarks marks later Same = later ≡ marks
AreMetMarks marks later (Revised revision) = count_marked later ≡ 0
