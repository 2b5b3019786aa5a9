-- How much was done for a reply: for how many components at least an answer was published.
use Rattle.std.specs.Prelude.{◌≡◌, ℕ, true, ◌≤◌, None, Ok, is_some, length}
use Rattle.std.specs.List.{count_by, position, range_with_len}
use Rattle.shape_data.specs.declared.program.Program.{Program}
use Rattle.component_keys.specs.Keys.{program_components}
use Rattle.summary_book.specs.declared.aims.Aim.{Aim}
use Rattle.summary_book.specs.declared.aims.Aim.TheVariants.{All, One}
use Rattle.summary_book.specs.Aims.{aimed}
use Rattle.session_generator.specs.Generated.{generated}
use Rattle.session_lines.specs.declared.command.Command.{Command}
use Rattle.session_lines.specs.declared.command.Command.TheVariants as command
use Rattle.project_form.specs.Files.{put_refusal, with_file}
use Rattle.project_form.specs.Reads.{Reads}
use Rattle.session_replies.specs.Answers.{GENERATED, Present}
use Rattle.session_replies.specs.Texts.{is_named}

-- how many components an aim reaches
abbrev pub count_reached : Program → Aim → ℕ
count_reached program aim = count_by (aimed program aim) (range_with_len 0 (length (program_components program)))

-- the reply to the command tells of a program, of the components that this aim reaches
abbrev pub Tells : Present → Command → Program → Aim → Type 0
Tells present (command.Show name) program aim =
    (aim ≡ One name) × Reads present.files (Ok program) × (is_some (position (is_named name) program.procs) ≡ true)
Tells present command.Report program aim = (aim ≡ All) × Reads present.files (Ok program)
Tells present command.Save program aim = (aim ≡ All) × (present.setting.saves ≡ true) × Reads present.files (Ok program)
Tells present (command.Gen n) program aim =
    (aim ≡ All) × (put_refusal GENERATED (generated n) present.files ≡ None)
    × Reads (with_file GENERATED (generated n) present.files) (Ok program)
Tells present _ program aim = ⊥

-- where the reply to the command tells of components, at least so many answers were published
abbrev pub IsWorked : Present → Command → ℕ → Type 0
IsWorked present asked published = (program : Program) (aim : Aim) → Tells present asked program aim → count_reached program aim ≤ published
