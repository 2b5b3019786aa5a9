-- What contracts see of claims and answers.
use Rattle.std.specs.Prelude.{ℕ, List, map}
use Rattle.shape_data.specs.declared.answer.Answer.{Answer}
use Rattle.shape_data.specs.declared.answer.Kept.{Kept}
use Rattle.shape_data.specs.declared.answer.Key.{Key}
use Rattle.shape_data.specs.WellFormed.{IsStorableAnswer, IsStorableKey}

-- a key with an answer to it
pub record Solution : Type 0 where
  pub key : Key
  pub answer : Answer

-- a key with its answer, without the places where they lie
abbrev pub solution_of : Kept → Solution
solution_of kept = record { key = kept.key.value; answer = kept.answer.value }

abbrev pub solutions_of : List Kept → List Solution
solutions_of kept = map solution_of kept

-- a component that was handed out
pub record Claimed : Type 0 where
  pub number : ℕ
  pub component : ℕ
  pub revision : ℕ
  pub key : Key

-- the answer is right for the key, as a job says, and both are within the limits of a store
pub record IsSolution (solves : Key → Answer → Type 0) (key : Key) (answer : Answer) : Type 0 where
  pub right : solves key answer
  pub storable_key : IsStorableKey key
  pub storable_answer : IsStorableAnswer key answer
