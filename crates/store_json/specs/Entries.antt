-- The entries of a store: keys with their answers.
use Rattle.std.specs.Prelude.{◌≡◌, true}
use Rattle.shape_data.specs.WellFormed.{IsStorableAnswer, IsStorableKey}
use Rattle.claim_core.specs.Views.{Solution}
use Rattle.summary_json.specs.Fits.{AnswerFits, KeyFits}

-- key and answer are well formed within the limits of a store
pub record IsStorable (entry : Solution) : Type 0 where
  pub key : IsStorableKey entry.key
  pub answer : IsStorableAnswer entry.key entry.answer

-- their numbers and names fit the types, as those of each value do
pub record Fits (entry : Solution) : Type 0 where
  pub key : KeyFits entry.key
  pub answer : AnswerFits entry.answer

-- the entry with the mark of an answer that was read from a store
abbrev pub as_stored : Solution → Solution
as_stored entry = record { key = entry.key; answer = record { stored = true; procs = entry.answer.procs } }

-- what is read: it is well formed, fits, and is so marked
pub record IsReadEntry (entry : Solution) : Type 0 where
  pub storable : IsStorable entry
  pub fits : Fits entry
  pub stored : entry.answer.stored ≡ true
