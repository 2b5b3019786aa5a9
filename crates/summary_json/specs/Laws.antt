-- What is read of a value: the one well-formed thing that is written so, or nothing where there is none.
use Rattle.std.specs.Prelude.{◌≡◌, true}
use Rattle.std.specs.declared.option.Option.{Option}
use Rattle.std.specs.declared.option.Option.TheVariants.{None, Some}
use Rattle.serde_json.specs.Data.{Data}
use Rattle.shape_data.specs.declared.answer.Answer.{Answer}
use Rattle.shape_data.specs.declared.answer.Key.{Key}
use Rattle.shape_data.specs.WellFormed.{IsStorableAnswer, IsStorableKey}
use Rattle.summary_json.specs.Answers.{answer_data, read_answer}
use Rattle.summary_json.specs.Fits.{AnswerFits, KeyFits}
use Rattle.summary_json.specs.Keys.{key_data, read_key}

-- a well-formed key that is written so; or no well-formed key is
abbrev pub IsReadKey : Data → Option Key → Type 0
IsReadKey d (Some key) = IsStorableKey key × KeyFits key × (key_data key ≡ d)
IsReadKey d None = (key : Key) → KeyFits key → IsStorableKey key → key_data key ≡ d → ⊥

-- a well-formed answer for the well-formed key that is written so, marked `stored`; or no well-formed answer is
abbrev pub IsReadAnswer : Key → Data → Option Answer → Type 0
IsReadAnswer key d (Some answer) =
    IsStorableKey key × IsStorableAnswer key answer × AnswerFits answer × (answer.stored ≡ true) × (answer_data key answer ≡ d)
IsReadAnswer key d None =
    KeyFits key → IsStorableKey key → (answer : Answer) → AnswerFits answer → IsStorableAnswer key answer → answer_data key answer ≡ d → ⊥

-- one value is that of one well-formed key
abbrev pub OneKey : Type 0
OneKey = (one other : Key) → KeyFits one → KeyFits other → IsStorableKey one → IsStorableKey other
    → key_data one ≡ key_data other → one ≡ other

-- and, for a well-formed key, of one list of summaries
abbrev pub OneAnswer : Type 0
OneAnswer = (key : Key) (one other : Answer) → KeyFits key → IsStorableKey key
    → AnswerFits one → AnswerFits other → IsStorableAnswer key one → IsStorableAnswer key other
    → answer_data key one ≡ answer_data key other → one.procs ≡ other.procs

-- a well-formed key is read as it was written
abbrev pub KeysAreReadBack : Type 0
KeysAreReadBack = (key : Key) → KeyFits key → IsStorableKey key → read_key (key_data key) ≡ Some key

-- a well-formed answer for a well-formed key is read as it was written, marked `stored`
abbrev pub AnswersAreReadBack : Type 0
AnswersAreReadBack = (key : Key) (answer : Answer) → KeyFits key → IsStorableKey key → AnswerFits answer → IsStorableAnswer key answer
    → read_answer key (answer_data key answer) ≡ Some (record { stored = true; procs = answer.procs })
