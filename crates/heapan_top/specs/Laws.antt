-- A stream is answered in one way, and what is reported is valid.
use Rattle.std.specs.Prelude.{◌≡◌, ℕ, Option, Ok, List, [], ◌++◌}
use Rattle.shape_data.specs.declared.program.Program.{Program}
use Rattle.shape_data.specs.WellFormed.{IsProgram}
use Rattle.bottom_up.specs.BottomUp.{program_summaries}
use Rattle.bottom_up.specs.Laws.{AreReported, IsHonest}
use Rattle.project_form.specs.Reads.{Reads}
use Rattle.heapan_top.specs.declared.status.Status.{Status}
use Rattle.reporters.specs.declared.reporter.Entry.{Entry}
use Rattle.heapan_top.specs.Fed.{FeedsTo, IsOver}
use Rattle.session_replies.specs.Answers.{Setting}
use Rattle.heapan_top.specs.Replies.{Course, Passes, Replies, beginning}
use Rattle.heapan_top.specs.Stores.{Opens, Store}

-- on each course a stream has at most one text of replies, and one end
abbrev pub OneReply : Type 0
OneReply =
    (course : Course) (stream text text' : List ℕ) (one other : Status) → Replies course stream text one →
    Replies course stream text' other →
    (text ≡ text') × (one ≡ other)

-- on each course a stream has replies, and an end
abbrev pub SomeReply : Type 0
SomeReply = (course : Course) (stream : List ℕ) → (text : List ℕ) × (ended : Status) × Replies course stream text ended

-- with each store a session begins in one way
abbrev pub OneOpening : Type 0
OneOpening = (store : Store) (one other : Setting) (front front' : List ℕ) → Opens store one front → Opens store other front' →
    (one ≡ other) × (front ≡ front')

-- and in some way
abbrev pub SomeOpening : Type 0
SomeOpening = (store : Store) → (setting : Setting) × (front : List ℕ) × Opens store setting front

-- where the files that are present at some point of a session are a program, it is well formed, and its summaries, of which the replies are
-- made, are one for each procedure, each well formed, with a spec or a reason, and with valid specs alone, whatever bytes the store has
abbrev pub PrintsValid : Type 0
PrintsValid =
    (store : Store) (setting : Setting) (front stream : List ℕ) (course : Course) (program : Program) → Opens store setting front →
    Passes (beginning setting) stream course →
    Reads course.present.files (Ok program) → IsProgram program × AreReported program (program_summaries setting.loaded program)

-- where each answer that was loaded is what solving its key gives, the replies are those of an analysis from nothing
abbrev pub HonestReplies : Type 0
HonestReplies =
    (setting : Setting) (stream text : List ℕ) (ended : Status) → IsHonest setting.loaded → Replies (beginning setting) stream text ended →
    Replies (beginning (record { loaded = []; saves = setting.saves })) stream text ended

-- on each course what is fed up to some point is a front of what is fed behind all commands of the stream, which so is one list
abbrev pub FedIsFront : Type 0
FedIsFront =
    (course later over : Course) (stream text text' left rest : List ℕ) (fed all : List Entry) (saved saved' : Option (List ℕ)) →
    FeedsTo course stream text fed saved later left → FeedsTo course stream text' all saved' over rest → IsOver over rest →
    (more : List Entry) × (all ≡ fed ++ more)

-- and there is one: which, is decided
abbrev pub SomeFed : Type 0
SomeFed =
    (course : Course) (stream : List ℕ) →
    (text : List ℕ) × (fed : List Entry) × (saved : Option (List ℕ)) × (later : Course) × (left : List ℕ)
    × FeedsTo course stream text fed saved later left × IsOver later left

-- all that is fed and stored behind all commands of the stream is one list, and the bytes that were stored last
abbrev pub OneFeeding : Type 0
OneFeeding =
    (course later over : Course) (stream text text' left rest : List ℕ) (fed all : List Entry) (saved saved' : Option (List ℕ)) →
    FeedsTo course stream text fed saved later left → IsOver later left → FeedsTo course stream text' all saved' over rest →
    IsOver over rest → (fed ≡ all) × (saved ≡ saved')
