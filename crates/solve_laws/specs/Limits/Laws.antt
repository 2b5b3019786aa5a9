-- What is solved is within the limits of a store.
use Rattle.std.specs.Prelude.{◌≡◌, ℕ, List, length, slice_get, All}
use Rattle.std.specs.declared.option.Option.TheVariants.{Some}
use Rattle.shape_data.specs.declared.answer.Callee.{Callee}
use Rattle.shape_data.specs.declared.answer.Key.{Key}
use Rattle.shape_data.specs.declared.program.Program.{Program}
use Rattle.shape_data.specs.declared.symbolic.Cert.{Cert}
use Rattle.shape_data.specs.declared.symbolic.Post.{Post}
use Rattle.shape_data.specs.declared.symbolic.Spec.{Spec}
use Rattle.shape_data.specs.declared.symbolic.SymHeap.{SymHeap}
use Rattle.shape_data.specs.declared.symbolic.SymState.{SymState}
use Rattle.shape_data.specs.WellFormed.{IsCert, IsExp, IsSpec, IsStorableAnswer, IsStorableKey, IsSymHeap, storable}
use Rattle.sym_parts.specs.Laws.Each.{EachInPost, EachInState}
use Rattle.sym_canon.specs.Canonical.{canon_state}
use Rattle.sym_forms.specs.Sizes.{most_exps}
use Rattle.component_keys.specs.Keys.{Component, key_over, program_components}
use Rattle.exec_laws.specs.declared.parts.Step.TheVariants as step
use Rattle.solve_laws.specs.Certificates.Coming.{Task, at_exit, at_node}
use Rattle.solve_laws.specs.Certificates.Conditions.{IsGivenState, IsTask}
use Rattle.solve_laws.specs.Certificates.Inductive.{execution}
use Rattle.solve_laws.specs.declared.annotation.parts.Annotated.TheVariants.{Done}
use Rattle.solve_laws.specs.Annotation.Annotation.{annotate}
use Rattle.solve_laws.specs.Annotation.Laws.{spec_of}
use Rattle.solve_laws.specs.Candidates.Candidates.{candidates}
use Rattle.solve_laws.specs.Solving.{solve}
use Rattle.solve_laws.specs.Limits.Numbers.{IsLowExistential, storable_logical}
use Rattle.shape_data.specs.Sizes.{HasKeySizes, HasProgramSizes}
use Rattle.solve_laws.specs.Limits.Sizes.{HasTaskSizes}

-- FORMS

-- the existential variables of a canonical form are the first so many as it has expressions, or fewer
abbrev pub FormsHaveLowExistentials : Type 0
FormsHaveLowExistentials =
    (state : SymState) (params : ℕ) → EachInState (IsLowExistential (most_exps (canon_state state params))) (canon_state state params)

-- LOGICAL VARIABLES

-- the logical variables of a state, or of a post, are within the limits of a store
abbrev pub HasStorableLogical : Task → SymState → Type 0
HasStorableLogical task state = EachInState (IsExp storable_logical (length task.flow.params)) state

abbrev pub PostHasStorableLogical : Task → Post → Type 0
PostHasStorableLogical task post = EachInPost (IsExp storable_logical (length task.flow.params)) post

-- strict execution keeps them so
abbrev pub ExecutionKeepsLogical : Type 0
ExecutionKeepsLogical =
    (task : Task) (at : ℕ) (state : SymState) (nexts : List (ℕ × SymState)) (exits : List Post) →
    IsTask task → HasTaskSizes task → IsGivenState task state → HasStorableLogical task state →
    execution task at state ≡ step.Next nexts exits →
    All (λ (next : ℕ × SymState). HasStorableLogical task next.1) nexts × All (PostHasStorableLogical task) exits

-- and so does the abstraction of what comes to a node, and to an exit
abbrev pub NodesKeepLogical : Type 0
NodesKeepLogical =
    (task : Task) (at : ℕ) (state form : SymState) → HasStorableLogical task state → at_node task at state ≡ Some form →
    HasStorableLogical task form

abbrev pub ExitsKeepLogical : Type 0
ExitsKeepLogical =
    (task : Task) (post form : Post) → PostHasStorableLogical task post → at_exit task post ≡ Some form → PostHasStorableLogical task form

-- WHAT IS FOUND

-- a precondition, a spec, a certificate of a procedure is within the limits of a store
abbrev pub IsStorablePre : Task → SymHeap → Type 0
IsStorablePre task pre = IsSymHeap storable task.structs (length task.flow.params) pre

abbrev pub IsStorableSpec : Task → Spec → Type 0
IsStorableSpec task spec = IsSpec storable task.structs (length task.flow.params) spec

abbrev pub IsStorableCert : Task → Cert → Type 0
IsStorableCert task cert = IsCert storable task.structs task.flow cert

-- each candidate is
abbrev pub CandidatesAreStorable : Type 0
CandidatesAreStorable = (task : Task) → IsTask task → HasTaskSizes task → All (IsStorablePre task) (candidates task).pres

-- so is what an annotation gives, where the precondition is
abbrev pub DoneIsStorable : Type 0
DoneIsStorable =
    (task : Task) (pre : SymHeap) (posts : List Post) (cert : Cert) → IsTask task → HasTaskSizes task → IsStorablePre task pre →
    annotate task pre ≡ Done posts cert → IsStorableSpec task (spec_of pre posts) × IsStorableCert task cert

-- so is the answer of a key that is, and it says why where it has no spec
abbrev pub SolvedIsStorable : Type 0
SolvedIsStorable = (key : Key) → IsStorableKey key → HasKeySizes key → IsStorableAnswer key (solve key)

-- KEYS

-- the key of a component of a program of these sizes has them, whatever is known of its callees
abbrev pub ComposedKeysHaveSizes : Type 0
ComposedKeysHaveSizes =
    (program : Program) (place : ℕ) (component : Component) (callees : List Callee) → HasProgramSizes program →
    slice_get (program_components program) place ≡ Some component → HasKeySizes (key_over program.structs component.flows callees)
