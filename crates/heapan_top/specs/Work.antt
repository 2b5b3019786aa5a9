-- What was done for the replies: how many answers were published at least, and that no component was claimed twice.
use Rattle.std.specs.Prelude.{◌≡◌, ◌≢◌, ℕ, ◌-◌, ◌<◌, ◌≤◌, List, [], ◌∷◌, ◌++◌, length}
use Rattle.std.specs.List.{Contains}
use Rattle.std.specs.declared.option.Option.{Option}
use Rattle.shape_data.specs.declared.answer.Key.{Key}
use Rattle.shape_data.specs.declared.program.Program.{Program}
use Rattle.claim_laws.specs.Logs.{HasNoRevise}
use Rattle.claim_laws.specs.World.{Event}
use Rattle.summary_book.specs.declared.aims.Aim.{Aim}
use Rattle.session_lines.specs.declared.command.Command.{Command}
use Rattle.session_lines.specs.Lines.{IsFirst}
use Rattle.session_lines.specs.Sessions.{MOST_COMMANDS}
use Rattle.session_replies.specs.Answers.{Answers, Present, Setting}
use Rattle.session_replies.specs.Work.{Tells, count_reached}
use Rattle.heapan_top.specs.Headline.{Appends}
use Rattle.heapan_top.specs.Replies.{Course, beginning, one_behind}
use Rattle.heapan_top.specs.Stores.{Opens, Store}

-- on this course over the stream the replies begin with this text, which ends within or behind a reply that tells of so many components
pub data Prints : Course → List ℕ → List ℕ → ℕ → Type 0 where
  here : (course : Course) (stream rest : List ℕ) (asked : Command) (front back : List ℕ) (after : Present) (program : Program)
      (aim : Aim) →
      course.taken < MOST_COMMANDS → IsFirst stream asked rest → Answers course.present asked (front ++ back) after → front ≢ [] →
      Tells course.present asked program aim →
      Prints course stream front (count_reached program aim)
  behind : (course : Course) (stream rest : List ℕ) (asked : Command) (text more : List ℕ) (after : Present) (count : ℕ) →
      course.taken < MOST_COMMANDS → IsFirst stream asked rest → Answers course.present asked text after →
      Prints (one_behind course (length stream - length rest) after) rest more count →
      Prints course stream (text ++ more) count

-- the bytes begin with the text
abbrev pub BeginsWith : List ℕ → List ℕ → Type 0
BeginsWith bytes text = (more : List ℕ) × (bytes ≡ text ++ more)

-- of each reply of which a byte was written and which tells of components, at most so many are told
abbrev pub AreCounted : Course → List ℕ → List ℕ → ℕ → Type 0
AreCounted course stream written solves =
    (text : List ℕ) (count : ℕ) → Prints course stream text count → BeginsWith written text → count ≤ solves

-- so it is of what was appended in answer to the stream
abbrev pub AppendsCounted : Setting → List ℕ → Option (List ℕ) → Option (List ℕ) → ℕ → Type 0
AppendsCounted setting stream old new solves =
    (written : List ℕ) × Appends old new written × AreCounted (beginning setting) stream written solves

-- the same of a whole session, with such a store
pub record CountsSession (store : Store) (stream : List ℕ) (old new : Option (List ℕ)) (solves : ℕ) : Type 0 where
  pub setting : Setting
  pub front : List ℕ
  pub written : List ℕ
  pub opens : Opens store setting front
  pub appends : Appends old new written
  pub counted : (text : List ℕ) (count : ℕ) → Prints (beginning setting) stream text count → BeginsWith written (front ++ text) →
      count ≤ solves

-- no component was claimed twice within a revision, unless the first claim was given back in between
abbrev pub IsClaimedOnce : List Event → Type 0
IsClaimedOnce log =
    (before middle rest : List Event) (first second one_worker other_worker component : ℕ) (one other : Key) →
    log ≡ before ++ (Event.Claim first one_worker component one ∷ (middle ++ (Event.Claim second other_worker component other ∷ rest))) →
    HasNoRevise middle →
    Contains middle (Event.GiveBack first)
