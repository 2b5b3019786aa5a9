-- What is well formed within limits is so within wider ones.
use Rattle.std.specs.Prelude.{ℕ, ◌≤◌, IsTrue}
use Rattle.shape_data.specs.declared.answer.Answer.{Answer}
use Rattle.shape_data.specs.declared.answer.Key.{Key}
use Rattle.shape_data.specs.WellFormed.{IsAnswer, IsKey, Limits, storable, widest}
use Rattle.exec_laws.specs.Rooms.{with_parts}

-- what the analysis works on: at most 96 parts in each heap, and else what is well formed
abbrev pub analysable : Limits
analysable = with_parts 96

-- the second limits allow all that the first allow
pub record IsWider (limits wider : Limits) : Type 0 where
  pub variables : (params x : ℕ) → IsTrue (limits.variables params x) → IsTrue (wider.variables params x)
  pub parts : limits.parts ≤ wider.parts
  pub specs : limits.specs ≤ wider.specs
  pub states : limits.states ≤ wider.states

-- LAWS

-- a key that is well formed within limits is so within wider ones
abbrev pub KeyWidens : Type 0
KeyWidens = (limits wider : Limits) (key : Key) → IsWider limits wider → IsKey limits key → IsKey wider key

-- and so is an answer
abbrev pub AnswerWidens : Type 0
AnswerWidens = (limits wider : Limits) (key : Key) (answer : Answer) → IsWider limits wider → IsAnswer limits key answer
    → IsAnswer wider key answer

-- what a store may hold can be analysed, and what can be analysed is well formed
abbrev pub StorableIsAnalysable : Type 0
StorableIsAnalysable = IsWider storable analysable × IsWider analysable widest
