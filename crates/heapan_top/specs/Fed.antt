-- What reporters are fed in a session, behind each report on a program, when its reply is written: an entry for each procedure; and what
-- the store is given, before the reply to
-- each command to save is written.
use Rattle.std.specs.Prelude.{◌≡◌, ◌≤◌, ◌<◌, ◌-◌, ℕ, false, List, [], ◌∷◌, ◌++◌, ◌⊎◌, length, take}
use Rattle.std.specs.Option.{option_map}
use Rattle.std.specs.declared.option.Option.{Option}
use Rattle.std.specs.declared.option.Option.TheVariants.{None}
use Rattle.io_ports.specs.Places.{now_has}
use Rattle.reporters.specs.declared.reporter.Entry.{Entry}
use Rattle.reporters.specs.Feeding.{AreFed}
use Rattle.reporters.specs.Known.{Known}
use Rattle.session_lines.specs.declared.command.Command.{Command}
use Rattle.session_lines.specs.Lines.{IsFirst}
use Rattle.session_lines.specs.Sessions.{MOST_COMMANDS}
use Rattle.session_replies.specs.Answers.{Answers, IsAnswered, Present, Setting}
use Rattle.session_replies.specs.Entries.{Feeds}
use Rattle.session_replies.specs.Saves.{Saves}
use Rattle.heapan_top.specs.declared.status.Status.{Status}
use Rattle.heapan_top.specs.declared.status.Status.TheVariants as status
use Rattle.heapan_top.specs.Headline.{Appends, AppendsSome}
use Rattle.heapan_top.specs.Replies.{Course, beginning, one_behind}
use Rattle.heapan_top.specs.Stores.{Opens, SavesNext, Store, given_last, last_of}

-- REPORTERS

-- the entries are offered one after the other to those that are left
pub data AreFedEach : List Entry → List Known → List Known → Type 0 where
  none : (all : List Known) → AreFedEach [] all all
  more : (entry : Entry) (entries : List Entry) (olds mids news : List Known) → AreFed entry olds mids → AreFedEach entries mids news →
      AreFedEach (entry ∷ entries) olds news

-- one that stays has taken the entries behind its old ones
pub record HasTaken (fed : List Entry) (old new : Known) : Type 0 where
  pub taken : new.taken ≡ option_map (λ entries. entries ++ fed) old.taken
  pub steady : new.steady ≡ old.steady
  pub stop : new.stop ≡ old.stop
  pub never_falls : old.faults ≤ new.faults

-- those that stay are some of those before, in their order, and none that is gone was steady
pub data StayBehind (fed : List Entry) : List Known → List Known → Type 0 where
  nobody : StayBehind fed [] []
  stays : (old new : Known) (olds news : List Known) → HasTaken fed old new → StayBehind fed olds news →
      StayBehind fed (old ∷ olds) (new ∷ news)
  goes : (old : Known) (olds news : List Known) → old.steady ≡ false → StayBehind fed olds news → StayBehind fed (old ∷ olds) news

-- reporters were fed these entries: each that stays has taken all of them; where there are none, they are as they came
pub record WereFed (as_they_came : Type 0) (fed : List Entry) (olds news : List Known) : Type 0 where
  pub each : AreFedEach fed olds news
  pub stay : StayBehind fed olds news
  pub unfed : fed ≡ [] → as_they_came

-- SESSIONS

-- on this course over the stream commands are answered, so that these replies are written, these entries fed, and the store was last given
-- these bytes, up to another course over
-- what is left
pub data FeedsTo : Course → List ℕ → List ℕ → List Entry → Option (List ℕ) → Course → List ℕ → Type 0 where
  here : (course : Course) (stream : List ℕ) → FeedsTo course stream [] [] None course stream
  behind : (course : Course) (stream rest : List ℕ) (asked : Command) (text others : List ℕ) (after : Present) (fed more : List Entry)
      (own saved : Option (List ℕ)) (later : Course) (left : List ℕ) →
      course.taken < MOST_COMMANDS → IsFirst stream asked rest → Answers course.present asked text after → Feeds course.present asked fed →
      Saves course.present asked own →
      FeedsTo (one_behind course (length stream - length rest) after) rest others more saved later left →
      FeedsTo course stream (text ++ others) (fed ++ more) (last_of own saved) later left

-- no command that is answered comes next
abbrev pub IsOver : Course → List ℕ → Type 0
IsOver course stream = (asked : Command) (rest : List ℕ) → course.taken < MOST_COMMANDS → IsFirst stream asked rest → IsAnswered asked → ⊥

-- a call that ends so has answered all commands
abbrev pub IsWhole : Status → Type 0
IsWhole status.Done = Unit {0}
IsWhole status.Unproven = Unit {0}
IsWhole (status.Refused command offset) = Unit {0}
IsWhole status.Full = Unit {0}
IsWhole status.Usage = ⊥
IsWhole status.ReadFault = ⊥
IsWhole status.WriteFault = ⊥
IsWhole status.StoreFault = ⊥
IsWhole status.NoMemory = ⊥

-- these bytes are a front of one reply, and not all of it, or a front of the line that refuses what stands first
pub data IsFrontOfNext (course : Course) (stream : List ℕ) : List ℕ → Type 0 where
  nothing : IsFrontOfNext course stream []
  reply : (rest : List ℕ) (asked : Command) (text : List ℕ) (after : Present) (count : ℕ) → course.taken < MOST_COMMANDS →
      IsFirst stream asked rest → Answers course.present asked text after →
      count < length text → IsFrontOfNext course stream (take count text)
  refusal : (bytes : List ℕ) → IsOver course stream → IsFrontOfNext course stream bytes

-- what the store has when a session ends: the bytes that it was last given, or, where a fault ended it, those that the command then asked
-- for gives it
abbrev pub IsKept : Course → List ℕ → Option (List ℕ) → Option (Option (List ℕ)) → Option (Option (List ℕ)) → Status → Type 0
IsKept later left saved before after ended =
    (after ≡ given_last saved before)
    ⊎ ((IsWhole ended → ⊥) × (bytes : List ℕ) × SavesNext later left bytes × (after ≡ now_has bytes before))

-- what was fed and stored in answer to the stream: the entries behind each reply that was written whole, and the bytes of the last of them
-- that was to save;
-- behind all replies, where the call has answered all commands
pub record IsFed (course : Course) (stream : List ℕ) (old new : Option (List ℕ)) (before after : Option (Option (List ℕ)))
    (as_they_came : Type 0) (olds news : List Known) (ended : Status) : Type 0 where
  pub text : List ℕ
  pub more : List ℕ
  pub fed : List Entry
  pub saved : Option (List ℕ)
  pub later : Course
  pub left : List ℕ
  pub leads : FeedsTo course stream text fed saved later left
  pub appends : Appends old new (text ++ more)
  pub next : IsFrontOfNext later left more
  pub were : WereFed as_they_came fed olds news
  pub kept : IsKept later left saved before after ended
  pub over : IsWhole ended → IsOver later left

-- WITH A STORE

-- the session ended before any command: in what is written before any reply
pub record EndsBefore (store : Store) (old new : Option (List ℕ)) (before after : Option (Option (List ℕ))) (as_they_came : Type 0)
    (olds news : List Known) (ended : Status) : Type 0 where
  pub setting : Setting
  pub front : List ℕ
  pub opens : Opens store setting front
  pub appends : AppendsSome old new front
  pub were : WereFed as_they_came [] olds news
  pub kept : after ≡ before
  pub cut : IsWhole ended → ⊥

-- the session came behind that
pub record IsFedBehind (store : Store) (stream : List ℕ) (old new : Option (List ℕ)) (before after : Option (Option (List ℕ)))
    (as_they_came : Type 0) (olds news : List Known) (ended : Status) : Type 0 where
  pub setting : Setting
  pub front : List ℕ
  pub mid : Option (List ℕ)
  pub opens : Opens store setting front
  pub appends : Appends old mid front
  pub fed : IsFed (beginning setting) stream mid new before after as_they_came olds news ended

-- the same of a whole session
abbrev pub FeedsSession : Store → List ℕ → Option (List ℕ) → Option (List ℕ) → Option (Option (List ℕ)) → Option (Option (List ℕ)) →
    Type 0 → List Known → List Known → Status → Type 0
FeedsSession store stream old new before after as_they_came olds news ended =
    IsFedBehind store stream old new before after as_they_came olds news ended
    ⊎ EndsBefore store old new before after as_they_came olds news ended
