-- What is written in reply to a stream of commands, and how a call then ends: one command after another, over the files present at each.
use Rattle.std.specs.Prelude.{◌≢◌, ℕ, ◌+◌, ◌-◌, ◌<◌, ◌≤◌, ◌==◌, if◌then◌else◌, List, [], ◌++◌, length, codes}
use Rattle.std.specs.Fmt.{decimal}
use Rattle.report_text.specs.Report.{line_of}
use Rattle.session_lines.specs.declared.command.Command.{Command}
use Rattle.session_lines.specs.declared.command.Command.TheVariants as command
use Rattle.session_lines.specs.Lines.{IsFirst}
use Rattle.session_lines.specs.Sessions.{BeginsWithNone, MOST_COMMANDS}
use Rattle.session_replies.specs.Answers.{Answers, Present, Setting, nothing_present}
use Rattle.heapan_top.specs.declared.status.Status.{Status}
use Rattle.heapan_top.specs.declared.status.Status.TheVariants as status

-- how far a session came: how many commands of how many bytes were taken, and what is present
pub record Course : Type 0 where
  pub taken : ℕ
  pub offset : ℕ
  pub present : Present

-- nothing was taken
abbrev pub beginning : Setting → Course
beginning setting = record { taken = 0; offset = 0; present = nothing_present setting }

-- one command of so many bytes was taken, and this is present then
abbrev pub one_behind : Course → ℕ → Present → Course
one_behind course size present = record { taken = course.taken + 1; offset = course.offset + size; present = present }

-- how a call ends that has read all: by how many procedures without a spec the last report told of
abbrev pub status_with : ℕ → Status
status_with missing = if missing == 0 then status.Done else status.Unproven

-- `malformed COMMAND OFFSET`: the number of the command, from 1, and the offset of its first byte in the stream
abbrev pub malformed_line : ℕ → ℕ → List ℕ
malformed_line number offset = line_of (codes "malformed " ++ decimal number ++ codes " " ++ decimal offset)

-- on this course the stream is answered with these bytes, and the call ends so
pub data Replies : Course → List ℕ → List ℕ → Status → Type 0 where
  -- nothing is left
  end : (course : Course) → Replies course [] [] (status_with course.present.missing)
  -- the command to end; what stands behind it is not looked at
  quit : (course : Course) (stream rest : List ℕ) → course.taken < MOST_COMMANDS → IsFirst stream command.Quit rest →
      Replies course stream [] (status_with course.present.missing)
  -- a byte more than as many commands as there may be
  full : (course : Course) (stream : List ℕ) → stream ≢ [] → MOST_COMMANDS ≤ course.taken → Replies course stream [] status.Full
  -- no command stands first
  malformed : (course : Course) (stream : List ℕ) → stream ≢ [] → course.taken < MOST_COMMANDS → BeginsWithNone stream →
      Replies course stream (malformed_line (course.taken + 1) course.offset) (status.Refused (course.taken + 1) course.offset)
  -- a command is answered, and then what stands behind it
  more : (course : Course) (stream rest : List ℕ) (asked : Command) (text others : List ℕ) (after : Present) (ended : Status) →
      course.taken < MOST_COMMANDS → IsFirst stream asked rest → Answers course.present asked text after →
      Replies (one_behind course (length stream - length rest) after) rest others ended →
      Replies course stream (text ++ others) ended

-- on this course over the stream, the session comes to the other course
pub data Passes : Course → List ℕ → Course → Type 0 where
  here : (course : Course) (stream : List ℕ) → Passes course stream course
  behind : (course later : Course) (stream rest : List ℕ) (asked : Command) (text : List ℕ) (after : Present) →
      course.taken < MOST_COMMANDS → IsFirst stream asked rest → Answers course.present asked text after →
      Passes (one_behind course (length stream - length rest) after) rest later →
      Passes course stream later
