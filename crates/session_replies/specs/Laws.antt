-- A command is answered in one way, and each that is answered is answered in some way; and what is reported is valid.
use Rattle.std.specs.Prelude.{◌≡◌, ℕ, Option, Ok, List, [], All}
use Rattle.shape_data.specs.declared.program.Program.{Program}
use Rattle.shape_data.specs.WellFormed.{IsProgram}
use Rattle.bottom_up.specs.BottomUp.{program_summaries}
use Rattle.bottom_up.specs.Laws.{AreReported, IsHonest, IsRight}
use Rattle.claim_core.specs.Views.{Solution}
use Rattle.project_form.specs.Files.{AreFiles, SourceFile}
use Rattle.project_form.specs.Reads.{Reads}
use Rattle.session_lines.specs.declared.command.Command.{Command}
use Rattle.reporters.specs.declared.reporter.Entry.{Entry}
use Rattle.session_replies.specs.Answers.{Answers, IsAnswered, Present}
use Rattle.session_replies.specs.Entries.{Feeds}
use Rattle.session_replies.specs.Saves.{Saves}

-- a command has at most one answer, and at most one present behind it
abbrev pub OneAnswer : Type 0
OneAnswer =
    (present one other : Present) (asked : Command) (text text' : List ℕ) → Answers present asked text one →
    Answers present asked text' other →
    (text ≡ text') × (one ≡ other)

-- a command other than `quit` has an answer: which, is decided
abbrev pub SomeAnswer : Type 0
SomeAnswer = (present : Present) (asked : Command) → IsAnswered asked →
    (text : List ℕ) × (after : Present) × Answers present asked text after

-- what is present keeps the limits of a project
abbrev pub AnswersKeepLimits : Type 0
AnswersKeepLimits =
    (present after : Present) (asked : Command) (text : List ℕ) → AreFiles present.files → Answers present asked text after →
    AreFiles after.files

-- and what the session began with stays
abbrev pub AnswersKeepSetting : Type 0
AnswersKeepSetting = (present after : Present) (asked : Command) (text : List ℕ) → Answers present asked text after →
    after.setting ≡ present.setting

-- files that are a program are a well-formed one, of which each summary that is reported is well formed, has a spec or a reason, and has
-- valid specs alone, whatever was loaded, if only each loaded answer is right for its key
abbrev pub ReportedIsValid : Type 0
ReportedIsValid =
    (loaded : List Solution) (files : List SourceFile) (program : Program) → All IsRight loaded → AreFiles files →
    Reads files (Ok program) →
    IsProgram program × AreReported program (program_summaries loaded program)

-- behind a command one list of entries is fed at most
abbrev pub OneFeed : Type 0
OneFeed = (present : Present) (asked : Command) (one other : List Entry) → Feeds present asked one → Feeds present asked other → one ≡ other

-- and there is one
abbrev pub SomeFeed : Type 0
SomeFeed = (present : Present) (asked : Command) → (entries : List Entry) × Feeds present asked entries

-- behind a command a store has new bytes, or none; in one way
abbrev pub OneSaving : Type 0
OneSaving = (present : Present) (asked : Command) (one other : Option (List ℕ)) → Saves present asked one → Saves present asked other →
    one ≡ other

-- and in some
abbrev pub SomeSaving : Type 0
SomeSaving = (present : Present) (asked : Command) → (saved : Option (List ℕ)) × Saves present asked saved

-- the same without what was loaded
abbrev pub from_nothing : Present → Present
from_nothing present = record present { setting = record { loaded = []; saves = present.setting.saves } }

-- where each answer that was loaded is what solving its key gives, a command is answered as if nothing had been loaded
abbrev pub HonestAnswers : Type 0
HonestAnswers =
    (present after : Present) (asked : Command) (text : List ℕ) → IsHonest present.setting.loaded → Answers present asked text after →
    Answers (from_nothing present) asked text (from_nothing after)
