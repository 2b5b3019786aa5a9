-- What reporters are fed behind a report.
use Rattle.std.specs.Prelude.{◌≡◌, ◌≢◌, Ok, Err, Option, Some, List, [], ◌∷◌}
use Rattle.reporters.specs.declared.reporter.Entry.{Entry}
use Rattle.shape_data.specs.declared.answer.ProcSummary.{ProcSummary}
use Rattle.shape_data.specs.declared.program.Proc.{Proc}
use Rattle.shape_data.specs.declared.program.Program.{Program}
use Rattle.claim_core.specs.Views.{Solution}
use Rattle.bottom_up.specs.BottomUp.{program_summaries}
use Rattle.session_lines.specs.declared.command.Command.{Command}
use Rattle.session_lines.specs.declared.command.Command.TheVariants as command
use Rattle.project_form.specs.declared.fault.Refused.{Refused}
use Rattle.project_form.specs.Reads.{Reads}
use Rattle.session_replies.specs.Answers.{Present}

-- a procedure's place, with its summary
abbrev pub entry_of : Proc → ProcSummary → Entry
entry_of proc summary = record { file = proc.file; line = proc.line; summary = summary }

-- the summary that an entry has
abbrev pub summary_told : Entry → ProcSummary
summary_told entry = entry.summary

-- it is the entry of the procedure, with this summary
abbrev pub IsEntryOf : Proc → Option ProcSummary → Entry → Type 0
IsEntryOf proc summary entry = (summary ≡ Some entry.summary) × (entry ≡ entry_of proc entry.summary)

-- one for each procedure, in their order
abbrev pub entries_over : List Proc → List ProcSummary → List Entry
entries_over procs [] = []
entries_over [] (summary ∷ summaries) = []
entries_over (proc ∷ procs) (summary ∷ summaries) = entry_of proc summary ∷ entries_over procs summaries

-- the entries of a program
abbrev pub program_entries : List Solution → Program → List Entry
program_entries loaded program = entries_over program.procs (program_summaries loaded program)

-- behind the reply to the command these are fed: the entries of a report on a program, and none behind another reply
pub data Feeds (present : Present) : Command → List Entry → Type 0 where
  report : (program : Program) → Reads present.files (Ok program)
      → Feeds present command.Report (program_entries present.setting.loaded program)
  report_refused : (refused : Refused) → Reads present.files (Err refused) → Feeds present command.Report []
  other : (asked : Command) → asked ≢ command.Report → Feeds present asked []
