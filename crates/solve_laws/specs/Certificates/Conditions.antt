-- The analysis of a procedure is well formed, and so is what it works on: at most 96 parts in each heap that is given.
use Rattle.std.specs.Prelude.{ℕ, ◌<◌, List, length, All}
use Rattle.shape_data.specs.declared.answer.Callee.{Callee}
use Rattle.shape_data.specs.declared.answer.ProcSummary.{ProcSummary}
use Rattle.shape_data.specs.declared.symbolic.Cert.{Cert}
use Rattle.shape_data.specs.declared.symbolic.Post.{Post}
use Rattle.shape_data.specs.declared.symbolic.Spec.{Spec}
use Rattle.shape_data.specs.declared.symbolic.SymState.{SymState}
use Rattle.shape_data.specs.WellFormed.{AreStructs, FitCalls, IsCert, IsFlow, IsPost, IsSpec, IsState, IsSummary, widest}
use Rattle.exec_laws.specs.declared.parts.Step.{Step}
use Rattle.exec_laws.specs.declared.parts.Step.TheVariants as step
use Rattle.exec_laws.specs.Laws.{IsTableWithin, callees_of}
use Rattle.solve_laws.specs.Certificates.Coming.{Task}
use Rattle.solve_laws.specs.Certificates.Limits.{analysable}

-- the analysis of a procedure is well formed: structures, flow, and the table, which each call fits
pub record IsTask (task : Task) : Type 0 where
  pub structs : AreStructs task.structs
  pub flow : IsFlow task.structs task.flow
  pub table : IsTableWithin task.structs 96 task.table
  pub fits : FitCalls (λ (one : Callee). one.name) (λ (one : Callee). one.params) (callees_of task.table) task.flow

-- a well-formed state of the procedure
abbrev pub IsTaskState : Task → SymState → Type 0
IsTaskState task state = IsState widest task.structs (length task.flow.params) (length task.flow.slots) state

-- a well-formed post of the procedure
abbrev pub IsTaskPost : Task → Post → Type 0
IsTaskPost task post = IsPost widest task.structs (length task.flow.params) post

-- a certificate of the procedure, with at most 96 parts in each heap
abbrev pub IsTaskCert : Task → Cert → Type 0
IsTaskCert task cert = IsCert analysable task.structs task.flow cert

-- a spec of the procedure, with at most 96 parts in each heap
abbrev pub IsTaskSpec : Task → Spec → Type 0
IsTaskSpec task spec = IsSpec analysable task.structs (length task.flow.params) spec

-- a summary of the procedure, with at most 96 parts in each heap
abbrev pub IsTaskSummary : Task → ProcSummary → Type 0
IsTaskSummary task summary = IsSummary analysable task.structs task.flow summary

-- WHAT AN EXECUTION IS GIVEN, AND WHAT IT GIVES

-- a state of the procedure with at most 96 parts
abbrev pub IsGivenState : Task → SymState → Type 0
IsGivenState task state = IsState analysable task.structs (length task.flow.params) (length task.flow.slots) state

-- a post of the procedure with at most 96 parts
abbrev pub IsGivenPost : Task → Post → Type 0
IsGivenPost task post = IsPost analysable task.structs (length task.flow.params) post

-- states with their nodes are well formed
abbrev pub AreNexts : Task → List (ℕ × SymState) → Type 0
AreNexts task nexts = All (λ (next : ℕ × SymState). IsTaskState task next.1) nexts

-- what an execution gives is well formed
abbrev pub IsGivenStep : Task → Step → Type 0
IsGivenStep task (step.Next nexts exits) = AreNexts task nexts × All (IsTaskPost task) exits
IsGivenStep task (step.Fail cause line) = Unit {0}

-- it goes on at nodes of the procedure
abbrev pub GoesOnWithin : Task → Step → Type 0
GoesOnWithin task (step.Next nexts exits) = All (λ (next : ℕ × SymState). next.0 < length task.flow.nodes) nexts
GoesOnWithin task (step.Fail cause line) = Unit {0}
