-- What fits the types: numbers have 32 bits and names 1 to 64 bytes. Each value of the types does.
use Rattle.std.specs.Prelude.{All, IfSome}
use Rattle.shape_data.specs.declared.symbolic.Cert.{Cert}
use Rattle.shape_data.specs.declared.symbolic.Post.{Post}
use Rattle.shape_data.specs.declared.symbolic.Spec.{Spec}
use Rattle.shape_data.specs.declared.symbolic.SymHeap.{SymHeap}
use Rattle.shape_data.specs.declared.symbolic.SymState.{SymState}
use Rattle.shape_data.specs.declared.answer.Answer.{Answer}
use Rattle.shape_data.specs.declared.answer.Callee.{Callee}
use Rattle.shape_data.specs.declared.answer.Key.{Key}
use Rattle.shape_data.specs.declared.answer.ProcSummary.{ProcSummary}
use Rattle.shape_data.specs.declared.answer.Reason.{Reason}
use Rattle.shape_data.specs.declared.answer.Reason.TheVariants as reason
use Rattle.sym_text.specs.Grammar.{HasInts, HoldsInts, IsInt}
use Rattle.flow_json.specs.Laws.{FlowFits, IsCount, IsName, StructFits}

abbrev pub HeapFits : SymHeap → Type 0
HeapFits heap = All HasInts heap.pure × All HoldsInts heap.spatial

abbrev pub PostFits : Post → Type 0
PostFits post = IsInt post.ret × HeapFits post.heap

abbrev pub SpecFits : Spec → Type 0
SpecFits spec = HeapFits spec.pre × All PostFits spec.posts

abbrev pub StateFits : SymState → Type 0
StateFits state = All IsInt state.locals × HeapFits state.heap

abbrev pub CertFits : Cert → Type 0
CertFits cert = All (All StateFits) cert.nodes × All PostFits cert.exits

abbrev pub CalleeFits : Callee → Type 0
CalleeFits callee = IsName callee.name × All IsName callee.params × All SpecFits callee.specs

pub record KeyFits (key : Key) : Type 0 where
  pub structs : All StructFits key.structs
  pub procs : All FlowFits key.procs
  pub callees : All CalleeFits key.callees

abbrev pub ReasonFits : Reason → Type 0
ReasonFits (reason.NoPath cause line) = IsCount line
ReasonFits reason.Endless = Unit {0}
ReasonFits (reason.Failed cause line) = IsCount line
ReasonFits (reason.Spent what count) = IsCount count

pub record SummaryFits (summary : ProcSummary) : Type 0 where
  pub name : IsName summary.name
  pub specs : All SpecFits summary.specs
  pub certs : All CertFits summary.certs
  pub reason : IfSome summary.reason ReasonFits

abbrev pub AnswerFits : Answer → Type 0
AnswerFits answer = All SummaryFits answer.procs
