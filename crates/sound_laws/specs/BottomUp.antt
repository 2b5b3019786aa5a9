-- Components from the bottom up: the callees of each key are procedures of earlier keys, with specs of their answers.
use Rattle.std.specs.Prelude.{◌≡◌, ℕ, ◌<◌, List, All, Contains}
use Rattle.shape_data.specs.declared.answer.Answer.{Answer}
use Rattle.shape_data.specs.declared.answer.Callee.{Callee}
use Rattle.shape_data.specs.declared.answer.Key.{Key}
use Rattle.shape_data.specs.declared.answer.ProcSummary.{ProcSummary}
use Rattle.shape_data.specs.declared.program.Flow.{Flow}
use Rattle.shape_data.specs.declared.program.Program.{Program}
use Rattle.shape_data.specs.Structures.{ContainsStructures}
use Rattle.sound_laws.specs.Answers.{AreValidIn, StandAt, StandsIn, Summarizes}
use Rattle.sound_laws.specs.Procedures.{HasFlow}

-- the callee is a procedure of the key, with its parameters, and its specs are among the answer's for it
pub record IsAnswered (key : Key) (answer : Answer) (callee : Callee) : Type 0 where
  pub flow : Flow
  pub summary : ProcSummary
  pub summarized : Summarizes key answer flow summary
  pub name : flow.name ≡ callee.name
  pub params : flow.params ≡ callee.params
  pub specs : All (Contains summary.specs) callee.specs

-- an answer is sound in a program: it is valid there where its key stands there
abbrev pub IsSoundAnswer : Program → Key → Answer → Type 0
IsSoundAnswer program key answer = StandsIn program key → AreValidIn program key answer

-- the callee is answered at an earlier place
abbrev pub IsAnsweredBefore : List Key → List Answer → ℕ → Callee → Type 0
IsAnsweredBefore keys answers at callee =
    (before : ℕ) × (key : Key) × (answer : Answer) × (before < at) × StandAt keys answers before key answer × IsAnswered key answer callee

-- the key at a place has structures and procedures of the program, its answer is sound, and its callees are answered before
pub record IsSoundAt (program : Program) (keys : List Key) (answers : List Answer) (at : ℕ) (key : Key) (answer : Answer) : Type 0 where
  pub structs : ContainsStructures program.structs key.structs
  pub flows : All (HasFlow program) key.procs
  pub sound : IsSoundAnswer program key answer
  pub callees : All (IsAnsweredBefore keys answers at) key.callees

-- keys and their answers stand bottom-up
abbrev pub AreBottomUp : Program → List Key → List Answer → Type 0
AreBottomUp program keys answers =
    (at : ℕ) (key : Key) (answer : Answer) → StandAt keys answers at key answer → IsSoundAt program keys answers at key answer

-- up the components each answer is valid
abbrev pub BottomUpIsValid : Type 0
BottomUpIsValid =
    (program : Program) (keys : List Key) (answers : List Answer) → AreBottomUp program keys answers →
    (at : ℕ) (key : Key) (answer : Answer) → StandAt keys answers at key answer → AreValidIn program key answer
