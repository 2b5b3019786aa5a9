-- Which bytes are in the store behind the reply to a command. They are put there before the reply is written.
use Rattle.std.specs.Prelude.{◌≡◌, ◌≢◌, ℕ, true, false, Option, None, Ok, Err, List}
use Rattle.shape_data.specs.declared.program.Program.{Program}
use Rattle.session_lines.specs.declared.command.Command.{Command}
use Rattle.session_lines.specs.declared.command.Command.TheVariants as command
use Rattle.project_form.specs.declared.fault.Refused.{Refused}
use Rattle.project_form.specs.Reads.{Reads}
use Rattle.session_replies.specs.Answers.{Present}
use Rattle.session_replies.specs.Texts.{stored_program}

-- the store has these bytes; none where it is as it was
pub data Saves (present : Present) : Command → Option (List ℕ) → Type 0 where
  save : (program : Program) → present.setting.saves ≡ true → Reads present.files (Ok program)
      → Saves present command.Save (stored_program present.setting.loaded program)
  save_refused : (refused : Refused) → present.setting.saves ≡ true → Reads present.files (Err refused) → Saves present command.Save None
  save_nowhere : present.setting.saves ≡ false → Saves present command.Save None
  other : (asked : Command) → asked ≢ command.Save → Saves present asked None
