-- What is given to calls is well formed, and so is what they give.
use Rattle.std.specs.Prelude.{◌≡◌, ℕ, ◌+◌, ◌<◌, List, [], length, slice_get, All, IfSome}
use Rattle.std.specs.declared.option.Option.{Option}
use Rattle.std.specs.declared.option.Option.TheVariants.{None, Some}
use Rattle.std.proofs.Common.{refl, sym, arith}
use Rattle.std.proofs.lemmas.List.Elements.{All-cons, All-nil, All-same, All-weaker}
use Rattle.shape_data.specs.declared.answer.Callee.{Callee}
use Rattle.shape_data.specs.declared.program.HeadMark.{HeadMark}
use Rattle.shape_data.specs.declared.program.Node.{Node}
use Rattle.shape_data.specs.declared.symbolic.Cert.{Cert}
use Rattle.shape_data.specs.declared.symbolic.Post.{Post}
use Rattle.shape_data.specs.declared.symbolic.Spec.{Spec}
use Rattle.shape_data.specs.declared.symbolic.SymHeap.{SymHeap}
use Rattle.shape_data.specs.declared.symbolic.SymState.{SymState}
use Rattle.shape_data.specs.WellFormed.{AreStates, FitsCall, IsCallee, IsExp, IsPost, IsState, IsSymHeap, widest}
use Rattle.sym_parts.proofs.ShapesLemmas.StepsStacks.{All-at}
use Rattle.sym_canon.specs.Canonical.{as_state}
use Rattle.abstraction_laws.specs.Heads.{abstract_head}
use Rattle.abstraction_laws.specs.Rooms.{IsWithinRoom}
use Rattle.abstraction_laws.proofs.RoomLaws.{well_formed_is_within_room}
use Rattle.abstraction_laws.proofs.WellFormedResults.{abstract_exit_is_well_formed, abstract_head_is_well_formed}
use Rattle.exec_laws.specs.declared.parts.Step.{Step}
use Rattle.exec_laws.specs.declared.parts.Step.TheVariants as step
use Rattle.exec_laws.specs.Laws.{IsTable, callees_of}
use Rattle.exec_laws.specs.Rooms.{with_parts}
use Rattle.exec_laws.proofs.ExecutionRooms.{all_answers_are_well_formed}
use Rattle.solve_laws.specs.Certificates.Coming.{Task, at_exit, normal_post, normal_state, start_form}
use Rattle.solve_laws.specs.Certificates.Inductive.{execution}
use Rattle.solve_laws.specs.Certificates.Limits.{IsWider, analysable}
use Rattle.solve_laws.proofs.CertificatesLemmas.LimitLaws as limits
use Rattle.solve_laws.proofs.CertificatesLemmas.ResultLaws.{
  normal_post_is_well_formed,
  normal_state_is_well_formed,
  start_form_is_well_formed,
}
use Rattle.solve_laws.specs.Certificates.Conditions.{
  AreNexts,
  GoesOnWithin,
  IsGivenState,
  IsGivenStep,
  IsTask,
  IsTaskCert,
  IsTaskPost,
  IsTaskSpec,
}
use Rattle.solve_laws.specs.Certificates.Conditions.{IsTaskState}

-- what is within the limits of the analysis is well formed; and so is what has twice as many parts
known : IsWider analysable widest
known = limits.storable_is_analysable.1

twice : IsWider (with_parts (96 + 96)) widest
twice = record { variables = λ params x is. is; parts = omega arith; specs = omega arith; states = omega arith }

module _ (task : Task) (good : IsTask task) where
  abbrev params : ℕ
  params = length task.flow.params

  abbrev slots : ℕ
  slots = length task.flow.slots

  -- ---- states and posts

  pub state-wide : (state : SymState) → IsGivenState task state → IsTaskState task state
  state-wide state is = limits.state analysable widest known params task.structs slots state is

  pub post-wide : (post : Post) → IsPost analysable task.structs params post → IsTaskPost task post
  post-wide post is = limits.post analysable widest known params task.structs post is

  pub state-room : (state : SymState) → IsTaskState task state → IsWithinRoom state
  state-room state is = well_formed_is_within_room task.structs params slots state good.structs good.flow.slots is

  as_one : (post : Post) → IsTaskPost task post → IsState widest task.structs params 1 (as_state post)
  as_one post is =
      record { one_each = refl; locals = All-cons (IsExp widest params) post.ret [] is.ret (All-nil (IsExp widest params)); heap = is.heap }

  pub post-room : (post : Post) → IsTaskPost task post → IsWithinRoom (as_state post)
  post-room post is = well_formed_is_within_room task.structs params 1 (as_state post) good.structs (omega arith) (as_one post is)

  pub head-given : (state : SymState) (mark : HeadMark) → IsTaskState task state → (made : Option SymState)
      → made ≡ abstract_head state task.flow mark task.structs → IfSome made (IsTaskState task)
  head-given state mark is None same = tt
  head-given state mark is (Some form) same =
      abstract_head_is_well_formed task.structs task.structs slots state form task.flow mark good.structs good.flow.slots is (sym same)

  pub exit-given : (exit : Post) → IsTaskPost task exit → (made : Option Post) → made ≡ at_exit task exit → IfSome made (IsTaskPost task)
  exit-given exit is None same = tt
  exit-given exit is (Some form) same =
      abstract_exit_is_well_formed task.structs task.structs exit form task.flow task.recursive good.structs is (sym same)

  pub start-given : (pre : SymHeap) (start : SymState) → IsSymHeap widest task.structs params pre → Some start ≡ start_form task.flow pre
      → IsTaskState task start
  start-given pre start is same = start_form_is_well_formed task pre start good.structs good.flow is (sym same)

  -- ---- certificates and specs

  module _ (cert : Cert) (is_cert : IsTaskCert task cert) where
    pub node-given : (at : ℕ) (states : List SymState) → slice_get cert.nodes at ≡ Some states → All (IsGivenState task) states
    node-given at states is = (All-at (AreStates analysable task.structs params slots) cert.nodes at states is_cert.nodes is).each

    pub exits-wide : All (IsTaskPost task) cert.exits
    exits-wide = All-weaker (IsPost analysable task.structs params) (IsTaskPost task) post-wide cert.exits is_cert.exits

  module _ (spec : Spec) (is_spec : IsTaskSpec task spec) where
    pub posts-wide : All (IsTaskPost task) spec.posts
    posts-wide = All-weaker (IsPost analysable task.structs params) (IsTaskPost task) post-wide spec.posts is_spec.posts

    pub pre-wide : IsSymHeap widest task.structs params spec.pre
    pre-wide = limits.heap analysable widest known params task.structs spec.pre is_spec.pre

  pub normal-post-given : (exit form : Post) → IsTaskPost task exit → Some form ≡ normal_post exit → IsTaskPost task form
  normal-post-given exit form is same = normal_post_is_well_formed widest task params exit form is (sym same)

  -- ---- execution

  pub table-wide : IsTable task.structs task.table
  table-wide =
      All-weaker (IsCallee analysable task.structs) (IsCallee widest task.structs) (limits.callee analysable widest known task.structs)
      (callees_of task.table) good.table

  pub normal-given : (state form : SymState) → IsGivenState task state → Some form ≡ normal_state state → IsGivenState task form
  normal-given state form is same = normal_state_is_well_formed analysable task params slots state form is (sym same)

  pub step-given : (at : ℕ) (form : SymState) → IsGivenState task form → (one : Step) → one ≡ execution task at form → IsGivenStep task one
  step-given at form is (step.Fail cause line) same = tt
  step-given at form is (step.Next nexts exits) same = by_node (slice_get task.flow.nodes at) refl
    where
      by_node : (o : Option Node) → slice_get task.flow.nodes at ≡ o → AreNexts task nexts × All (IsTaskPost task) exits
      by_node (Some node) is_node =
          let fits =
          All-at (λ (one : Node). FitsCall (λ (it : Callee). it.name) (λ (it : Callee). it.params)
          (callees_of task.table) one.cmd) task.flow.nodes at node good.fits is_node in
          let made =
          all_answers_are_well_formed task.flow task.structs at node form task.table nexts exits 96 96 good.structs good.flow is_node
          good.table fits (omega arith) (omega arith) (omega arith) is (sym same) in (
            All-weaker (λ (next : ℕ × SymState). (next.0 < length task.flow.nodes)
                × IsState (with_parts (96 + 96)) task.structs params slots next.1) (λ (next : ℕ × SymState). IsTaskState task next.1)
                (λ next both. limits.state (with_parts (96 + 96)) widest twice params task.structs slots next.1 both.1) nexts made.0,
            All-weaker (IsPost (with_parts (96 + 96)) task.structs params) (IsTaskPost task)
                (λ exit given. limits.post (with_parts (96 + 96)) widest twice params task.structs exit given) exits made.1,
          )
      by_node None none =
          let nothing : step.Next [] [] ≡ step.Next nexts exits = rw none at (sym same) in
          let no_nexts : nexts ≡ [] = cc in
          let no_exits : exits ≡ [] = cc in (
            All-same (λ (next : ℕ × SymState). IsTaskState task next.1) nexts [] no_nexts
                (All-nil (λ (next : ℕ × SymState). IsTaskState task next.1)),
            All-same (IsTaskPost task) exits [] no_exits
                (All-nil (IsTaskPost task)),
          )

  -- it goes on at nodes of the procedure
  pub step-within : (at : ℕ) (form : SymState) → IsGivenState task form → (one : Step) → one ≡ execution task at form
      → GoesOnWithin task one
  step-within at form is (step.Fail cause line) same = tt
  step-within at form is (step.Next nexts exits) same = by_node (slice_get task.flow.nodes at) refl
    where
      by_node : (o : Option Node) → slice_get task.flow.nodes at ≡ o → All (λ (next : ℕ × SymState). next.0 < length task.flow.nodes) nexts
      by_node (Some node) is_node =
          let fits =
          All-at (λ (one : Node). FitsCall (λ (it : Callee). it.name) (λ (it : Callee). it.params)
          (callees_of task.table) one.cmd) task.flow.nodes at node good.fits is_node in
          let made =
          all_answers_are_well_formed task.flow task.structs at node form task.table nexts exits 96 96 good.structs good.flow is_node
          good.table fits (omega arith) (omega arith) (omega arith) is (sym same) in
          All-weaker (λ (next : ℕ × SymState). (next.0 < length task.flow.nodes)
          × IsState (with_parts (96 + 96)) task.structs params slots next.1) (λ (next : ℕ × SymState). next.0 < length task.flow.nodes)
          (λ next both. both.0) nexts made.0
      by_node None none =
          let nothing : step.Next [] [] ≡ step.Next nexts exits = rw none at (sym same) in
          let no_nexts : nexts ≡ [] = cc in
          All-same (λ (next : ℕ × SymState). next.0 < length task.flow.nodes) nexts [] no_nexts
          (All-nil (λ (next : ℕ × SymState). next.0 < length task.flow.nodes))
