-- Keys and answers: the specs that calls may use, what an answer must show, and what it then shows of the program.
use Rattle.std.specs.Prelude.{◌≡◌, ℕ, List, [], ◌∷◌, ◌++◌, slice_get, All}
use Rattle.std.specs.declared.option.Option.TheVariants.{Some}
use Rattle.shape_data.specs.declared.answer.Answer.{Answer}
use Rattle.shape_data.specs.declared.answer.Callee.{Callee}
use Rattle.shape_data.specs.declared.answer.Key.{Key}
use Rattle.shape_data.specs.declared.answer.ProcSummary.{ProcSummary}
use Rattle.shape_data.specs.declared.program.Flow.{Flow}
use Rattle.shape_data.specs.declared.program.Proc.{Proc}
use Rattle.shape_data.specs.declared.program.Program.{Program}
use Rattle.shape_data.specs.declared.symbolic.Cert.{Cert}
use Rattle.shape_data.specs.declared.symbolic.Spec.{Spec}
use Rattle.shape_data.specs.Structures.{ContainsStructures}
use Rattle.shape_data.specs.Valid.{Valid}
use Rattle.shape_data.specs.WellFormed.{IsKey, Limits}
use Rattle.sound_laws.specs.Certificates.{IsInductive}
use Rattle.sound_laws.specs.Procedures.{Finds, HasFlow, IsValidCallee}

-- a procedure with the specs that its summary has
abbrev pub callee_with : Flow → ProcSummary → Callee
callee_with flow summary = record { name = flow.name; params = flow.params; specs = summary.specs }

-- the procedures of a key with the specs of an answer, which has one summary for each of them, in their order
abbrev pub own_callees : List Flow → List ProcSummary → List Callee
own_callees [] summaries = []
own_callees (flow ∷ flows) [] = []
own_callees (flow ∷ flows) (summary ∷ summaries) = callee_with flow summary ∷ own_callees flows summaries

-- what the calls of a key's procedures may use: the answer's specs within the key, and those of the key's callees
abbrev pub usable_callees : Key → Answer → List Callee
usable_callees key answer = own_callees key.procs answer.procs ++ key.callees

-- two things stand at a place of two lists
abbrev pub StandAt : {A B : Type 0} → List A → List B → ℕ → A → B → Type 0
StandAt ones others place one other = (slice_get ones place ≡ Some one) × (slice_get others place ≡ Some other)

-- the answer's summary of a procedure of the key: they stand at the same place
abbrev pub Summarizes : Key → Answer → Flow → ProcSummary → Type 0
Summarizes key answer flow summary = (place : ℕ) × StandAt key.procs answer.procs place flow summary

-- a key stands in a program: the program has its structures, its procedures under their names, and its callees with their parameters,
-- and their specs are valid there
pub record StandsIn (program : Program) (key : Key) : Type 0 where
  pub structs : ContainsStructures program.structs key.structs
  pub own : All (HasFlow program) key.procs
  pub outer : All (IsValidCallee program) key.callees

-- each spec of the answer has an inductive certificate, which stands at the spec's place
abbrev pub HasInductiveCerts : Program → Key → Answer → Type 0
HasInductiveCerts program key answer =
    (flow : Flow) (summary : ProcSummary) → Summarizes key answer flow summary →
    (at : ℕ) (spec : Spec) → slice_get summary.specs at ≡ Some spec →
    (cert : Cert) × (slice_get summary.certs at ≡ Some cert) × IsInductive program (usable_callees key answer) flow spec cert

-- each spec of the answer is valid for the procedure that its name finds
abbrev pub AreValidIn : Program → Key → Answer → Type 0
AreValidIn program key answer =
    (flow : Flow) (summary : ProcSummary) → Summarizes key answer flow summary →
    (number : ℕ) (proc : Proc) → Finds program flow.name number proc → All (Valid program number) summary.specs

-- SOUNDNESS: the specs of an answer with inductive certificates are valid in each program in which its key stands
abbrev pub AnswerIsValid : Type 0
AnswerIsValid =
    (limits : Limits) (program : Program) (key : Key) (answer : Answer) → IsKey limits key → StandsIn program key →
    HasInductiveCerts program key answer → AreValidIn program key answer
