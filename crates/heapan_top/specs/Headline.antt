-- What the one call that does everything promises: which bytes are written, and which status comes when.
use Rattle.std.specs.Prelude.{◌≡◌, ℕ, true, List, ◌⊎◌, codes, is_some, map, take}
use Rattle.std.specs.Borrow.{Bor}
use Rattle.std.specs.Option.{option_and_then}
use Rattle.std.specs.declared.option.Option.{Option}
use Rattle.command_words.specs.Words.{Options, words_asked}
use Rattle.io_ports.specs.Bytes.{after_held, before_left}
use Rattle.report_text.specs.Report.{line_of}
use Rattle.heapan_top.specs.declared.status.Status.{Status}
use Rattle.heapan_top.specs.declared.status.Status.TheVariants as status
use Rattle.heapan_top.specs.Replies.{Course, Replies}
use Rattle.heapan_top.specs.Stores.{RepliesWith, Store}

-- the bytes of each word
abbrev pub word_bytes : List (Bor (List ℕ)) → List (List ℕ)
word_bytes words = map (λ (word : Bor (List ℕ)). word.now) words

-- the words are of the form that the program takes
abbrev pub AreRightWords : List (List ℕ) → Type 0
AreRightWords words = is_some (words_asked words) ≡ true

-- the path of the store that the words name, if they name one
abbrev pub store_named : List (List ℕ) → Option (List ℕ)
store_named words = option_and_then (λ (asked : Options). asked.store) (words_asked words)

-- what is written for other words
abbrev pub usage_line : List ℕ
usage_line = line_of (codes "usage: heapan session [--workers N] [--store PATH]")

-- all of the bytes were appended to what was held, where that is told
abbrev pub Appends : Option (List ℕ) → Option (List ℕ) → List ℕ → Type 0
Appends old new bytes = new ≡ after_held old bytes

-- a front of the bytes, or all, was appended
abbrev pub AppendsSome : Option (List ℕ) → Option (List ℕ) → List ℕ → Type 0
AppendsSome old new bytes = (count : ℕ) × (new ≡ after_held old (take count bytes))

-- these replies were appended, and the call ends as it is to end then
abbrev pub AnswersInFull : (List ℕ → Status → Type 0) → Option (List ℕ) → Option (List ℕ) → Status → Type 0
AnswersInFull replies old new ended = (text : List ℕ) × replies text ended × Appends old new text

-- a front of these replies was appended, whatever they are
abbrev pub BeginsReplies : (List ℕ → Status → Type 0) → Option (List ℕ) → Option (List ℕ) → Type 0
BeginsReplies replies old new = (text : List ℕ) (planned : Status) → replies text planned → AppendsSome old new text

-- the status and what is held answer what such replies answer
abbrev pub AnswersBy : (List ℕ → Status → Type 0) → Option (List ℕ) → Option (List ℕ) → Status → Type 0
AnswersBy replies old new status.Done = AnswersInFull replies old new status.Done
AnswersBy replies old new status.Unproven = AnswersInFull replies old new status.Unproven
AnswersBy replies old new (status.Refused command offset) = AnswersInFull replies old new (status.Refused command offset)
AnswersBy replies old new status.Full = AnswersInFull replies old new status.Full
AnswersBy replies old new status.Usage = ⊥
AnswersBy replies old new status.ReadFault = BeginsReplies replies old new
AnswersBy replies old new status.WriteFault = BeginsReplies replies old new
AnswersBy replies old new status.StoreFault = BeginsReplies replies old new
AnswersBy replies old new status.NoMemory = BeginsReplies replies old new

-- the status and what is held answer the stream, on this course
abbrev pub Answers : Course → List ℕ → Option (List ℕ) → Option (List ℕ) → Status → Type 0
Answers course stream old new ended = AnswersBy (Replies course stream) old new ended

-- the same of a whole session, with such a store
abbrev pub AnswersSession : Store → List ℕ → Option (List ℕ) → Option (List ℕ) → Status → Type 0
AnswersSession store stream old new ended = AnswersBy (RepliesWith store stream) old new ended

-- the status and what is held answer words that are not the right ones
abbrev pub AnswersOtherWords : Option (List ℕ) → Option (List ℕ) → Status → Type 0
AnswersOtherWords old new status.Done = ⊥
AnswersOtherWords old new status.Unproven = ⊥
AnswersOtherWords old new (status.Refused command offset) = ⊥
AnswersOtherWords old new status.Full = ⊥
AnswersOtherWords old new status.Usage = Appends old new usage_line
AnswersOtherWords old new status.ReadFault = ⊥
AnswersOtherWords old new status.WriteFault = AppendsSome old new usage_line
AnswersOtherWords old new status.StoreFault = ⊥
AnswersOtherWords old new status.NoMemory = AppendsSome old new usage_line

-- a front of the bytes left was read
abbrev pub ReadsFront : Option (List ℕ) → Option (List ℕ) → Type 0
ReadsFront old new = (bytes : List ℕ) × (old ≡ before_left bytes new)

-- where no fault came, right words end as the stream is to end, and other words meet the usage line, unless memory wants
abbrev pub Completes : List (List ℕ) → Store → List ℕ → Status → Type 0
Completes words store stream ended =
    ((AreRightWords words → ⊥) → (ended ≡ status.Usage) ⊎ (ended ≡ status.NoMemory))
    × (AreRightWords words → (text : List ℕ) (planned : Status) → RepliesWith store stream text planned
    → (ended ≡ planned) ⊎ (ended ≡ status.NoMemory))
