-- When an answer is inductive: five rules for each spec and its certificate. They search for nothing, and have no order of work. How
-- the certificate was found plays no part, nor does the mark `stored`.
use Rattle.std.specs.Prelude.{ℕ, false, All, IfSome}
use Rattle.shape_data.specs.declared.answer.Answer.{Answer}
use Rattle.shape_data.specs.declared.answer.Key.{Key}
use Rattle.shape_data.specs.declared.answer.ProcSummary.{ProcSummary}
use Rattle.shape_data.specs.declared.program.Flow.{Flow}
use Rattle.shape_data.specs.declared.symbolic.Cert.{Cert}
use Rattle.shape_data.specs.declared.symbolic.Post.{Post}
use Rattle.shape_data.specs.declared.symbolic.Spec.{Spec}
use Rattle.shape_data.specs.declared.symbolic.SymState.{SymState}
use Rattle.shape_data.specs.WellFormed.{IsAnswer, IsKey, widest}
use Rattle.sound_laws.specs.Answers.{StandAt, Summarizes, own_callees}
use Rattle.sound_laws.specs.Certificates.{states_at}
use Rattle.exec_laws.specs.declared.parts.Step.{Step}
use Rattle.exec_laws.specs.declared.parts.Step.TheVariants as step
use Rattle.exec_laws.specs.declared.parts.Table.{Table}
use Rattle.exec_laws.specs.Execution.{exec}
use Rattle.solve_laws.specs.Certificates.Coming.{Task, at_exit, at_node, normal_post, normal_state, start_at_node}
use Rattle.solve_laws.specs.Certificates.Coverings.{IsCovered, IsPostCovered}

-- EXECUTION

-- the strict execution of a state at a node
abbrev pub execution : Task → ℕ → SymState → Step
execution task at state = exec task.flow task.structs at state task.table

-- it does not fail
abbrev pub DoesNotFail : Step → Type 0
DoesNotFail (step.Next nexts exits) = Unit {0}
DoesNotFail (step.Fail cause line) = ⊥

-- each state that it gives, with its node, is such; where it fails it gives none
abbrev pub OfNexts : (ℕ × SymState → Type 0) → Step → Type 0
OfNexts P (step.Next nexts exits) = All P nexts
OfNexts P (step.Fail cause line) = Unit {0}

-- each exit that it gives is such
abbrev pub OfExits : (Post → Type 0) → Step → Type 0
OfExits P (step.Next nexts exits) = All P exits
OfExits P (step.Fail cause line) = Unit {0}

-- the strict execution of each certificate state is such: a certificate state is brought to normal form before it is executed, and a
-- contradiction needs nothing
abbrev pub OfExecutions : Task → Cert → (Step → Type 0) → Type 0
OfExecutions task cert P = (at : ℕ) → All (λ state. IfSome (normal_state state) (λ form. P (execution task at form))) (states_at cert at)

-- THE FIVE RULES

-- 1. the start state, which comes to node 0, is covered by a certificate state there
abbrev pub StartIsCovered : Task → Spec → Cert → Type 0
StartIsCovered task spec cert = IfSome (start_at_node task spec.pre) (IsCovered (states_at cert 0))

-- 2. the strict execution of each certificate state does not fail
abbrev pub NoStateFails : Task → Cert → Type 0
NoStateFails task cert = OfExecutions task cert DoesNotFail

-- 3. each state that it gives, abstracted where it comes to the head of a loop, is covered by a certificate state at its node
abbrev pub NextsAreCovered : Task → Cert → Type 0
NextsAreCovered task cert =
    OfExecutions task cert (OfNexts (λ (next : ℕ × SymState). IfSome (at_node task next.0 next.1) (IsCovered (states_at cert next.0))))

-- 4. each exit that it gives, abstracted, is covered by a certificate exit
abbrev pub ExitsAreCovered : Task → Cert → Type 0
ExitsAreCovered task cert = OfExecutions task cert (OfExits (λ exit. IfSome (at_exit task exit) (IsPostCovered cert.exits)))

-- 5. each certificate exit, in normal form, is covered by a post
abbrev pub PostsCover : Spec → Cert → Type 0
PostsCover spec cert = All (λ exit. IfSome (normal_post exit) (IsPostCovered spec.posts)) cert.exits

-- a certificate of a spec is inductive
pub record IsInductiveCert (task : Task) (spec : Spec) (cert : Cert) : Type 0 where
  pub start : StartIsCovered task spec cert
  pub runs : NoStateFails task cert
  pub nexts : NextsAreCovered task cert
  pub exits : ExitsAreCovered task cert
  pub posts : PostsCover spec cert

-- KEYS AND ANSWERS

-- the strict table of a key and an answer: the answer's specs within the component, and those of the key's callees
abbrev pub table_of : Key → Answer → Table
table_of key answer = record { own = own_callees key.procs answer.procs; outer = key.callees; cut = false }

-- the analysis of a procedure of the key under that table
abbrev pub task_of : Key → Answer → Flow → Task
task_of key answer flow = record { flow = flow; structs = key.structs; table = table_of key answer; recursive = key.recursive }

-- each spec of a summary stands beside its certificate, which is inductive
abbrev pub IsInductiveSummary : Task → ProcSummary → Type 0
IsInductiveSummary task summary =
    (at : ℕ) (spec : Spec) (cert : Cert) → StandAt summary.specs summary.certs at spec cert → IsInductiveCert task spec cert

-- INDUCTIVE: key and answer are well formed, and the rules hold for each spec of each procedure
pub record Inductive (key : Key) (answer : Answer) : Type 0 where
  pub is_key : IsKey widest key
  pub is_answer : IsAnswer widest key answer
  pub specs : (flow : Flow) (summary : ProcSummary) → Summarizes key answer flow summary
      → IsInductiveSummary (task_of key answer flow) summary
