-- The reply to each command of a session, and what is present behind it.
use Rattle.std.specs.Prelude.{◌≡◌, ℕ, Bool, true, false, Option, Some, None, Result, Ok, Err, List, [], codes}
use Rattle.shape_data.specs.declared.program.Program.{Program}
use Rattle.claim_core.specs.Views.{Solution}
use Rattle.session_generator.specs.Generated.{generated}
use Rattle.session_lines.specs.declared.command.Command.{Command}
use Rattle.session_lines.specs.declared.command.Command.TheVariants as command
use Rattle.project_form.specs.declared.fault.Refused.{Refused}
use Rattle.project_form.specs.Files.{SourceFile, has_file, put_refusal, with_file, without_file}
use Rattle.project_form.specs.Reads.{Reads}
use Rattle.session_replies.specs.Texts.{block_named, drop_line, error_line, ok_line, program_missing, program_report, program_stored_line}
use Rattle.session_replies.specs.Texts.{program_total, put_line, refused_line}

-- what a session begins with: the entries that were loaded from its store, and whether it has a store to save to
pub record Setting : Type 0 where
  pub loaded : List Solution
  pub saves : Bool

-- the files that are present, and how many procedures without a spec the last report told of, none before the first; and what the session
-- began with
pub record Present : Type 0 where
  pub files : List SourceFile
  pub missing : ℕ
  pub setting : Setting

-- no file
abbrev pub nothing_present : Setting → Present
nothing_present setting = record { files = []; missing = 0; setting = setting }

-- WHAT THE FILES ARE

-- what is written of a program; files that are none are refused
abbrev pub text_of : (Program → List ℕ) → Result Program Refused → List ℕ
text_of text (Ok program) = text program
text_of text (Err refused) = refused_line refused

-- how many procedures without a spec a report tells of; where it is refused, the last one stands
abbrev pub missing_by : List Solution → ℕ → Result Program Refused → ℕ
missing_by loaded before (Ok program) = program_missing loaded program
missing_by loaded before (Err refused) = before

-- EACH COMMAND

-- the name of the generated file
abbrev pub GENERATED : List ℕ
GENERATED = codes "gen.c"

-- a file is put, unless it is refused
abbrev pub unless_refused : Option ℕ → List SourceFile → List SourceFile → List SourceFile
unless_refused None put files = put
unless_refused (Some code) put files = files

abbrev pub with_put : List ℕ → List ℕ → Present → Present
with_put name bytes present =
    record present { files = unless_refused (put_refusal name bytes present.files) (with_file name bytes present.files) present.files }

-- a file is dropped
abbrev pub with_drop : List ℕ → Present → Present
with_drop name present = record present { files = without_file name present.files }

-- a command is answered with these bytes, and this is present then; `quit` is not answered so
pub data Answers (present : Present) : Command → List ℕ → Present → Type 0 where
  -- an empty line
  blank : Answers present command.Blank [] present
  put : (name bytes : List ℕ) →
      Answers present (command.Put name bytes) (put_line (put_refusal name bytes present.files)) (with_put name bytes present)
  -- a file of more than 1,048,576 bytes
  put_too_long : (name : List ℕ) (size : ℕ) → Answers present (command.PutTooLong name size) (error_line 143) present
  drop_file : (name : List ℕ) → Answers present (command.DropFile name) (drop_line (has_file name present.files)) (with_drop name present)
  start : (answer : Result Program Refused) → Reads present.files answer →
      Answers present command.Start (text_of (λ program. ok_line) answer) present
  show : (name : List ℕ) (answer : Result Program Refused) → Reads present.files answer →
      Answers present (command.Show name) (text_of (block_named present.setting.loaded name) answer) present
  report : (answer : Result Program Refused) → Reads present.files answer →
      Answers present command.Report (text_of (program_report present.setting.loaded) answer)
      (record present { missing = missing_by present.setting.loaded present.missing answer })
  -- the generated file is put, and the total line of the whole project is written
  gen : (n : ℕ) (answer : Result Program Refused) → put_refusal GENERATED (generated n) present.files ≡ None →
      Reads (with_file GENERATED (generated n) present.files) answer →
      Answers present (command.Gen n) (text_of (program_total present.setting.loaded) answer)
      (record present { files = with_file GENERATED (generated n) present.files })
  -- what is known of the whole program is stored
  save : (answer : Result Program Refused) → present.setting.saves ≡ true → Reads present.files answer →
      Answers present command.Save (text_of (program_stored_line present.setting.loaded) answer) present
  -- there is no store to save to
  save_nowhere : present.setting.saves ≡ false → Answers present command.Save (error_line 147) present
  gen_refused : (n code : ℕ) → put_refusal GENERATED (generated n) present.files ≡ Some code →
      Answers present (command.Gen n) (error_line code) present

-- the command is answered so
abbrev pub IsAnswered : Command → Type 0
IsAnswered command.Quit = ⊥
IsAnswered _ = Unit {0}
