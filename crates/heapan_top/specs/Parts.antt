-- What the parts of the program promise one another. No contract of a call that other crates see cites it.
use Rattle.std.specs.Prelude.{◌≡◌, ◌≢◌, ℕ, ◌+◌, ◌<◌, ◌≤◌, Option, Some, None, Result, Ok, Err, IfSome, List, [], ◌++◌, ◌⊎◌, is_some}
use Rattle.std.specs.Borrow.{Bor}
use Rattle.std.specs.Global.{Vec}
use Rattle.std.specs.Option.{option_map}
use Rattle.claim_core.specs.Views.{Solution}
use Rattle.io_ports.specs.Bytes.{AppendsFront}
use Rattle.io_ports.specs.Counts.{Rose}
use Rattle.io_ports.specs.Places.{now_has}
use Rattle.reporters.specs.declared.reporter.Entry.{Entry}
use Rattle.reporters.specs.Feeding.{steady_count}
use Rattle.reporters.specs.Known.{Known}
use Rattle.session_lines.specs.declared.command.Command.{Command}
use Rattle.session_lines.specs.Reading.{Reading}
use Rattle.session_replies.specs.Answers.{Answers as AnswersCommand, Present, Setting}
use Rattle.session_replies.specs.Entries.{Feeds}
use Rattle.session_replies.specs.Saves.{Saves}
use Rattle.session_replies.specs.Work.{IsWorked}
use Rattle.heapan_top.specs.declared.status.Status.{Status}
use Rattle.heapan_top.specs.declared.status.Status.TheVariants as status
use Rattle.heapan_top.specs.Fed.{FeedsTo, IsFed, WereFed}
use Rattle.heapan_top.specs.Headline.{Answers, Appends, AppendsSome, ReadsFront}
use Rattle.heapan_top.specs.Replies.{Course, Replies, beginning}
use Rattle.heapan_top.specs.Stores.{KeepsOthers, given_last, path_told}
use Rattle.heapan_top.specs.Work.{AppendsCounted, AreCounted}

-- how far a session came, by its reader and by what is present
abbrev pub course_of : Reading → Present → Course
course_of reading present = record { taken = reading.taken; offset = reading.offset; present = present }

-- the course came to what is present, and the next command has this number, from 1, and this offset, and is none too many
pub record IsAt (course : Course) (present : Present) (number offset : ℕ) : Type 0 where
  pub present_is : course.present ≡ present
  pub number_is : number ≡ course.taken + 1
  pub offset_is : offset ≡ course.offset
  pub few : course.taken < 65536

-- a fault of writing, or of storing, or want of memory
abbrev pub IsCutShort : Status → Type 0
IsCutShort ended = (ended ≡ status.WriteFault) ⊎ ((ended ≡ status.StoreFault) ⊎ (ended ≡ status.NoMemory))

-- a fault of writing, or want of memory
abbrev pub IsWriteEnd : Status → Type 0
IsWriteEnd ended = (ended ≡ status.WriteFault) ⊎ (ended ≡ status.NoMemory)

-- the bytes were written and the call ends as it was to end, or a front of them and it ends in a fault
abbrev pub Ends : Option (List ℕ) → Option (List ℕ) → List ℕ → Status → Status → Type 0
Ends old new text planned ended = ((ended ≡ planned) × Appends old new text) ⊎ (IsWriteEnd ended × AppendsSome old new text)

-- nothing was written, or a front of an answer to the command, and not all of it
abbrev pub IsCutAnswer : Present → Command → Option (List ℕ) → Option (List ℕ) → Type 0
IsCutAnswer present asked old new =
    (new ≡ old) ⊎ ((text : List ℕ) × (after : Present) × AnswersCommand present asked text after × AppendsFront old new text)

-- a command was answered, or its answer was cut short
abbrev pub IsReply : Present → Command → Option (List ℕ) → Present → Option (List ℕ) → Option Status → Type 0
IsReply present asked old after new None = (text : List ℕ) × AnswersCommand present asked text after × Appends old new text
IsReply present asked old after new (Some ended) = IsCutShort ended × IsCutAnswer present asked old new

-- from one course over a stream a session came, with these bytes written, to another course over what is left
pub record Leads (course : Course) (stream text : List ℕ) (after : Course) (rest : List ℕ) : Type 0 where
  pub leads : (others : List ℕ) (ended : Status) → Replies after rest others ended → Replies course stream (text ++ others) ended

-- one command led to another course over what is left, or the session is answered
pub record Goes (course : Course) (stream : List ℕ) (old : Option (List ℕ)) (after : Course) (left new : Option (List ℕ)) : Type 0 where
  pub text : List ℕ
  pub rest : List ℕ
  pub is_left : left ≡ Some rest
  pub leads : Leads course stream text after rest
  pub appends : Appends old new text

abbrev pub IsTurn : Course → List ℕ → Option (List ℕ) → Course → Option (List ℕ) → Option (List ℕ) → Option Status → Type 0
IsTurn course stream old after left new None = Goes course stream old after left new
IsTurn course stream old after left new (Some ended) = Answers course stream old new ended

-- the session is under way from its beginning
abbrev pub IsUnderWay : Setting → Option (List ℕ) → Option (List ℕ) → Course → Option (List ℕ) → Option (List ℕ) → Type 0
IsUnderWay setting told old course left new = IfSome told (λ stream. Goes (beginning setting) stream old course left new)

-- one more command was taken
abbrev pub IsOneMore : ℕ → ℕ → Type 0
IsOneMore old new = (old < 65536) × (new ≡ old + 1)

-- WORK

-- the answer to a command was written, and so many publishes were seen by then; or a front of it
abbrev pub IsReplyWork : Present → Command → Option (List ℕ) → Present → Option (List ℕ) → ℕ → Option Status → Type 0
IsReplyWork present asked old after new seen None =
    (text : List ℕ) × AnswersCommand present asked text after × Appends old new text × IsWorked present asked seen
IsReplyWork present asked old after new seen (Some ended) =
    (new ≡ old) ⊎ ((text : List ℕ) × (later : Present) × AnswersCommand present asked text later × AppendsSome old new text
    × IsWorked present asked seen)

-- from one course over a stream a session came, with these bytes written and so many publishes seen, to another course over what is left
pub record GoesOn (course : Course) (stream : List ℕ) (old : Option (List ℕ)) (after : Course) (left new : Option (List ℕ))
    (seen : ℕ) : Type 0 where
  pub text : List ℕ
  pub rest : List ℕ
  pub is_left : left ≡ Some rest
  pub appends : Appends old new text
  pub carries : (written : List ℕ) (solves : ℕ) → seen ≤ solves → AreCounted after rest written solves
      → AreCounted course stream (text ++ written) solves

-- this was written last
abbrev pub EndsCounted : Course → List ℕ → Option (List ℕ) → Option (List ℕ) → ℕ → Type 0
EndsCounted course stream old new seen =
    (written : List ℕ) × Appends old new written × ((solves : ℕ) → seen ≤ solves → AreCounted course stream written solves)

abbrev pub IsWork : Course → List ℕ → Option (List ℕ) → Course → Option (List ℕ) → Option (List ℕ) → ℕ → Option Status → Type 0
IsWork course stream old after left new seen None = GoesOn course stream old after left new seen
IsWork course stream old after left new seen (Some ended) = EndsCounted course stream old new seen

-- the work was done from the beginning
abbrev pub IsDone : Setting → Option (List ℕ) → Option (List ℕ) → Course → Option (List ℕ) → Option (List ℕ) → ℕ → Type 0
IsDone setting told old course left new seen = IfSome told (λ stream. GoesOn (beginning setting) stream old course left new seen)

-- FEEDING

-- how a reply ends the session, if it does; otherwise there are entries to feed
abbrev pub ended_of : Result (Vec Entry) Status → Option Status
ended_of (Ok entries) = None
ended_of (Err ended) = Some ended

-- the bytes of the path that is named, if one is
abbrev pub path_bytes : Option (Bor (List ℕ)) → Option (List ℕ)
path_bytes path = option_map (λ (one : Bor (List ℕ)). one.now) path

-- what a session begins with that has these loaded entries, and the path of a store or not
abbrev pub setting_of : List Solution → Option (Bor (List ℕ)) → Setting
setting_of loaded path = record { loaded = loaded; saves = is_some path }

-- the store has what it had, or the bytes that it was to have
abbrev pub IsStoreCut : Option (List ℕ) → Option (Option (List ℕ)) → Option (Option (List ℕ)) → Type 0
IsStoreCut saved before after = (after ≡ before) ⊎ ((bytes : List ℕ) × (saved ≡ Some bytes) × (after ≡ now_has bytes before))

-- the store has what the reply to a command gives it
abbrev pub IsReplyStored : Present → Command → Option (Option (List ℕ)) → Option (Option (List ℕ)) → Type 0
IsReplyStored present asked before after = (saved : Option (List ℕ)) × Saves present asked saved × (after ≡ given_last saved before)

-- what a reply saves was stored, or, where the reply was cut short, was or was not
abbrev pub IsReplySaved : Present → Command → Option (Option (List ℕ)) → Option (Option (List ℕ)) → Option Status → Type 0
IsReplySaved present asked before after None = IsReplyStored present asked before after
IsReplySaved present asked before after (Some ended) =
    (after ≡ before) ⊎ ((bytes : List ℕ) × Saves present asked (Some bytes) × (after ≡ now_has bytes before))

-- behind the reply to a command its entries were fed, and what it saves was stored before; behind a reply that was cut short none were fed,
-- and what it saves was stored or not
abbrev pub IsReplyFed : Present → Command → Option (Option (List ℕ)) → Option (Option (List ℕ)) → Type 0 → List Known → List Known
    → Option Status → Type 0
IsReplyFed present asked before after as_they_came olds news None =
    ((fed : List Entry) × Feeds present asked fed × WereFed as_they_came fed olds news) × IsReplySaved present asked before after None
IsReplyFed present asked before after as_they_came olds news (Some ended) =
    WereFed as_they_came [] olds news × IsReplySaved present asked before after (Some ended)

-- from one course over a stream a session came, with this text written and these entries fed, to another course over what is left
pub record FeedsOn (course : Course) (stream : List ℕ) (old : Option (List ℕ)) (later : Course) (left new : Option (List ℕ))
    (before after : Option (Option (List ℕ)))
    (as_they_came : Type 0) (olds news : List Known) : Type 0 where
  pub text : List ℕ
  pub fed : List Entry
  pub saved : Option (List ℕ)
  pub rest : List ℕ
  pub is_left : left ≡ Some rest
  pub leads : FeedsTo course stream text fed saved later rest
  pub appends : Appends old new text
  pub were : WereFed as_they_came fed olds news
  pub kept : after ≡ given_last saved before

abbrev pub IsTurnFed : Course → List ℕ → Option (List ℕ) → Course → Option (List ℕ) → Option (List ℕ) → Option (Option (List ℕ))
    → Option (Option (List ℕ)) → Type 0 → List Known → List Known → Option Status → Type 0
IsTurnFed course stream old later left new before after as_they_came olds news None =
    FeedsOn course stream old later left new before after as_they_came olds news
IsTurnFed course stream old later left new before after as_they_came olds news (Some ended) =
    IsFed course stream old new before after as_they_came olds news ended

-- reporters were fed from the beginning
abbrev pub IsFedOn : Setting → Option (List ℕ) → Option (List ℕ) → Course → Option (List ℕ) → Option (List ℕ) → Option (Option (List ℕ))
    → Option (Option (List ℕ)) → Type 0 → List Known → List Known → Type 0
IsFedOn setting told old course left new before after as_they_came olds news =
    IfSome told (λ stream. FeedsOn (beginning setting) stream old course left new before after as_they_came olds news)

-- a store that could not be read, or want of memory
abbrev pub IsStoreEnd : Status → Type 0
IsStoreEnd ended = (ended ≡ status.StoreFault) ⊎ (ended ≡ status.NoMemory)

-- LEADING

-- what a leader does at a desk: the stream that its source has is answered, and it has seen so many publishes
pub record IsLed (setting : Setting) (path : Option (List ℕ)) (told left old new : Option (List ℕ))
    (kept kept' : List ℕ → Option (Option (List ℕ)))
    (read_faults read_faults' write_faults write_faults' store_faults store_faults' : ℕ) (as_they_came : Type 0) (olds news : List Known)
    (ended : Status) (seen : ℕ) : Type 0 where
  pub answers : IfSome told (λ stream. Answers (beginning setting) stream old new ended)
  pub work : IfSome told (λ stream. AppendsCounted setting stream old new seen)
  pub fed : IfSome told
      (λ stream. IsFed (beginning setting) stream old new (path_told kept path) (path_told kept' path) as_they_came olds news ended)
  pub steady : steady_count news ≡ steady_count olds
  pub reads : ReadsFront told left
  pub others : KeepsOthers path kept kept'
  pub usage : ended ≢ status.Usage
  pub read_fault : ended ≡ status.ReadFault → Rose read_faults read_faults'
  pub write_fault : ended ≡ status.WriteFault → Rose write_faults write_faults'
  pub store_fault : ended ≡ status.StoreFault → Rose store_faults store_faults'
