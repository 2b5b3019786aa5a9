-- When a certificate is inductive, said by what meets its states alone: nothing is said of how states are executed, abstracted or
-- compared. And what inductive certificates show of the specs for which they are claimed.
use Rattle.std.specs.Prelude.{◌≡◌, ◌⊎◌, ℕ, ◌+◌, ◌-◌, ◌<◌, pos, List, [], ◌∷◌, ◌++◌, length, replicate, slice_get, slice_index_or, All}
use Rattle.std.specs.Prelude.{Contains}
use Rattle.std.specs.declared.option.Option.TheVariants.{Some}
use Rattle.shape_data.specs.declared.answer.Callee.{Callee}
use Rattle.shape_data.specs.declared.program.Cmd.{Cmd}
use Rattle.shape_data.specs.declared.program.Flow.{Flow}
use Rattle.shape_data.specs.declared.program.Node.{Node}
use Rattle.shape_data.specs.declared.program.Proc.{Proc}
use Rattle.shape_data.specs.declared.program.Program.{Program}
use Rattle.shape_data.specs.declared.symbolic.Cert.{Cert}
use Rattle.shape_data.specs.declared.symbolic.Exp.{Exp}
use Rattle.shape_data.specs.declared.symbolic.Exp.TheVariants.{Var, Const}
use Rattle.shape_data.specs.declared.symbolic.Post.{Post}
use Rattle.shape_data.specs.declared.symbolic.Spec.{Spec}
use Rattle.shape_data.specs.declared.symbolic.SymHeap.{SymHeap}
use Rattle.shape_data.specs.declared.symbolic.SymState.{SymState}
use Rattle.shape_data.specs.Valid.{Valid}
use Rattle.sound_laws.specs.Leading.{PostLeads, RowIsSound, StateLeads}
use Rattle.sound_laws.specs.Procedures.{Finds}

-- the variables from k on, one for each parameter
abbrev pub variables_from : {A : Type 0} → ℕ → List A → List Exp
variables_from k [] = []
variables_from k (param ∷ params) = Var k ∷ variables_from (k + 1) params

-- the state in which a procedure starts: its parameters' variables, 0 in all other slots, and the precondition
abbrev pub start_state : Flow → SymHeap → SymState
start_state flow pre = record {
  locals = variables_from 0 flow.params ++ replicate (length flow.slots - length flow.params) (Const (pos 0));
  heap = pre;
}

-- the certificate's states at a node: none where it has no such node
abbrev pub states_at : Cert → ℕ → List SymState
states_at cert node = slice_index_or cert.nodes node []

-- a state goes on within a certificate: its command leads to successors, each of which leads to the certificate's states at its
-- node, and to exits, each of which leads to the certificate's exits
pub record GoesOn (program : Program) (callees : List Callee) (cert : Cert) (command : Cmd) (state : SymState) : Type 0 where
  pub nexts : List (ℕ × SymState)
  pub exits : List Post
  pub executed : RowIsSound program callees state command nexts exits
  pub covered : All (λ (next : ℕ × SymState). StateLeads program.structs next.1 (states_at cert next.0)) nexts
  pub left : All (λ exit. PostLeads program.structs exit cert.exits) exits

-- a certificate of a procedure's spec is inductive, where calls use the specs of these callees: the start state leads to its states
-- at node 0, each of its states goes on within it, and each of its exits leads to the posts
pub record IsInductive (program : Program) (callees : List Callee) (flow : Flow) (spec : Spec) (cert : Cert) : Type 0 where
  pub entry : StateLeads program.structs (start_state flow spec.pre) (states_at cert 0)
  pub states : (at : ℕ) (node : Node) → slice_get flow.nodes at ≡ Some node →
      All (GoesOn program callees cert node.cmd) (states_at cert at)
  pub posts : All (λ exit. PostLeads program.structs exit spec.posts) cert.exits

-- the program has a procedure of this number, whose parameters are logical variables, and the certificate of the spec is inductive for it
pub record IsInductiveFor (program : Program) (callees : List Callee) (number : ℕ) (spec : Spec) (cert : Cert) : Type 0 where
  pub proc : Proc
  pub is_proc : slice_get program.procs number ≡ Some proc
  pub logical : length proc.flow.params < 65536
  pub inductive : IsInductive program callees proc.flow spec cert

-- the callee is a procedure of the program, with its own parameters, and each of its specs is valid there or is claimed itself
pub record IsSupported (program : Program) (Claimed : ℕ → Spec → Cert → Type 0) (callee : Callee) : Type 0 where
  pub number : ℕ
  pub proc : Proc
  pub found : Finds program callee.name number proc
  pub params : proc.flow.params ≡ callee.params
  pub specs : All (λ spec. Valid program number spec ⊎ ((cert : Cert) × Claimed number spec cert)) callee.specs

-- certificates that are claimed of specs of procedures, by their numbers, support each other: each is inductive, where calls use
-- the specs of these callees, and each of these specs is valid or is claimed itself
pub record SupportEachOther (program : Program) (callees : List Callee) (Claimed : ℕ → Spec → Cert → Type 0) : Type 0 where
  pub claims : (number : ℕ) (spec : Spec) (cert : Cert) → Claimed number spec cert → IsInductiveFor program callees number spec cert
  pub callees_supported : All (IsSupported program Claimed) callees

-- a claim: the spec of a procedure, by its number, with its certificate
pub record Claim : Type 0 where
  pub number : ℕ
  pub spec : Spec
  pub cert : Cert

-- one of the claims
abbrev pub IsClaimed : List Claim → ℕ → Spec → Cert → Type 0
IsClaimed claims number spec cert = Contains claims (record { number = number; spec = spec; cert = cert })

-- LAWS

-- a state goes on where each of its cases does. (So a contradiction, which has no case, goes on.)
abbrev pub CasesGoOn : Type 0
CasesGoOn =
    (program : Program) (callees : List Callee) (cert : Cert) (command : Cmd) (state : SymState) (cases : List SymState) →
    StateLeads program.structs state cases → All (GoesOn program callees cert command) cases → GoesOn program callees cert command state

-- what is claimed by certificates that support each other is valid
abbrev pub ClaimsAreValid : Type 0
ClaimsAreValid =
    (program : Program) (callees : List Callee) (claims : List Claim) → SupportEachOther program callees (IsClaimed claims) →
    All (λ (claim : Claim). Valid program claim.number claim.spec) claims
