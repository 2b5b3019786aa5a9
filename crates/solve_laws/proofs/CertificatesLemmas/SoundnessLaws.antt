-- Soundness: each rule gives that what meets a state leads to what meets one of those that the rule names; the rest is the law of
-- answers with inductive certificates.
use Rattle.std.specs.Prelude.{◌≡◌, ℕ, ◌<◌, ◌≤◌, List, [], ◌∷◌, ◌++◌, length, slice_get, slice_index_or, All, IfSome}
use Rattle.std.specs.declared.option.Option.TheVariants.{None, Some}
use Rattle.std.proofs.Common.{refl, subst, arith, inl, ⊎_elim}
use Rattle.std.proofs.lemmas.List.{get_or_past}
use Rattle.std.proofs.lemmas.List.Elements.{All-append, All-cons, All-nil, All-same, All-weaker}
use Rattle.std.proofs.lemmas.Option.{get_or_from_slice_get, slice_get_cases, slice_get_within}
use Rattle.shape_data.specs.declared.answer.Answer.{Answer}
use Rattle.shape_data.specs.declared.answer.Callee.{Callee}
use Rattle.shape_data.specs.declared.answer.Key.{Key}
use Rattle.shape_data.specs.declared.answer.ProcSummary.{ProcSummary}
use Rattle.shape_data.specs.declared.program.Cmd.{Cmd}
use Rattle.shape_data.specs.declared.program.Cmd.TheVariants as cmd
use Rattle.shape_data.specs.declared.program.Flow.{Flow}
use Rattle.shape_data.specs.declared.program.Node.{Node}
use Rattle.shape_data.specs.declared.program.Program.{Program}
use Rattle.shape_data.specs.declared.symbolic.Cert.{Cert}
use Rattle.shape_data.specs.declared.symbolic.Post.{Post}
use Rattle.shape_data.specs.declared.symbolic.Spec.{Spec}
use Rattle.shape_data.specs.declared.symbolic.SymState.{SymState}
use Rattle.shape_data.specs.WellFormed.{AreStates, FitCalls, FitsCall, IsCallee, IsCert, IsFlow, IsPost, IsSpec, IsState, IsSummary, widest}
use Rattle.sym_parts.proofs.ShapesLemmas.StepsStacks.{All-at, within-some}
use Rattle.sym_pure.specs.declared.parts.Normal.{Normal}
use Rattle.sym_pure.specs.declared.parts.Normal.TheVariants.{Is, Contradiction}
use Rattle.sym_pure.specs.Laws.{MeansTheSame}
use Rattle.sym_pure.specs.Normal.{normal}
use Rattle.sym_pure.proofs.MeaningLaws.{normal_keeps_meaning}
use Rattle.sym_forms.specs.Forms.{of_form}
use Rattle.sym_matching.specs.Laws.{FitsAtom}
use Rattle.sym_matching.proofs.SizeLaws.{fitting_carries, well_formed_fits}
use Rattle.sound_laws.specs.Answers.{HasInductiveCerts, StandAt, StandsIn, Summarizes, callee_with, own_callees, usable_callees}
use Rattle.sound_laws.specs.BottomUp.{IsSoundAt}
use Rattle.sound_laws.specs.Certificates.{GoesOn, IsInductive, start_state, states_at}
use Rattle.sound_laws.specs.Leading.{PostLeads, StateLeads}
use Rattle.sound_laws.proofs.AnswerLemmas.{answer_is_valid, each_own}
use Rattle.sound_laws.proofs.BottomUpLemmas.{bottom_up_is_valid}
use Rattle.sound_laws.proofs.CaseLemmas.{cases_go_on}
use Rattle.exec_laws.specs.declared.parts.Step.{Step}
use Rattle.exec_laws.specs.declared.parts.Step.TheVariants as step
use Rattle.exec_laws.specs.Laws.{FitsTable, IsNoCutCall, IsTable}
use Rattle.exec_laws.proofs.ExecutionLemmas.{execution_is_sound}
use Rattle.solve_laws.specs.Certificates.Coming.{Task, at_exit, at_node, normal_post, start_at_node}
use Rattle.solve_laws.specs.Certificates.Coverings.{IsCovered, IsPostCovered}
use Rattle.solve_laws.specs.Certificates.Inductive.{DoesNotFail, Inductive, IsInductiveCert, OfExits, OfNexts, execution, table_of, task_of}
use Rattle.solve_laws.specs.Certificates.Laws.{AllAreValid, InductiveIsValid, IsInductiveAt}
use Rattle.solve_laws.proofs.CertificatesLemmas.LeadingLaws.{
  at_exit-weakens,
  at_node-weakens,
  covered-leads,
  covered-post-leads,
  normal_post-weakens,
}
use Rattle.solve_laws.proofs.CertificatesLemmas.LeadingLaws.{start-weakens, PostsFit, StatesFit}

-- ---- calls

-- a call that fits the procedures and the callees of a key fits their table
pub fits-both : (flows : List Flow) (outer own : List Callee) (command : Cmd) →
    ((name : List ℕ) (args : ℕ) → All (λ (flow : Flow). flow.name ≡ name → length flow.params ≡ args) flows →
    All (λ (one : Callee). one.name ≡ name → length one.params ≡ args) own) →
    FitsCall (λ (one : Flow). one.name) (λ (one : Flow). one.params) flows command →
    FitsCall (λ (one : Callee). one.name) (λ (one : Callee). one.params) outer command →
    FitsCall (λ (one : Callee). one.name) (λ (one : Callee). one.params) (own ++ outer) command
fits-both flows outer own (cmd.Call to name args next) as_callees of_own of_outer =
    All-append (λ (one : Callee). one.name ≡ name → length one.params ≡ length args) own outer
    (as_callees name (length args) of_own) of_outer
fits-both flows outer own _ as_callees of_own of_outer = tt

no-cut : (key : Key) (answer : Answer) (command : Cmd) → IsNoCutCall (table_of key answer) command
no-cut key answer (cmd.Call to name args next) = refl
no-cut key answer _ = tt

-- ---- an answer in a program

module _ (program : Program) (key : Key) (answer : Answer) (stands : StandsIn program key) (inductive : Inductive key answer) where
  -- the summary of a procedure is well formed
  summary-of : (flow : Flow) (summary : ProcSummary) → Summarizes key answer flow summary → IsSummary widest key.structs flow summary
  summary-of flow summary (place, (is_flow, is_summary)) =
      let here : slice_index_or key.procs place flow ≡ flow = get_or_from_slice_get key.procs place flow flow is_flow in
      let there : slice_index_or answer.procs place summary ≡ summary =
      get_or_from_slice_get answer.procs place summary summary is_summary in
      let is = inductive.is_answer.each place flow summary (slice_get_within key.procs place flow is_flow) in
      subst (λ one. IsSummary widest key.structs one summary) here
      (subst (λ one. IsSummary widest key.structs (slice_index_or key.procs place flow) one) there is)

  flow-of : (flow : Flow) (summary : ProcSummary) → Summarizes key answer flow summary → IsFlow key.structs flow
  flow-of flow summary (place, (is_flow, is_summary)) = All-at (IsFlow key.structs) key.procs place flow inductive.is_key.procs.each is_flow

  -- the table is well formed
  good-table : IsTable key.structs (table_of key answer)
  good-table =
      All-append (IsCallee widest key.structs) (own_callees key.procs answer.procs) key.callees
      (each_own (IsCallee widest key.structs) key.procs answer.procs own) inductive.is_key.callees.each
    where
      own : (place : ℕ) (flow : Flow) (summary : ProcSummary) → slice_get key.procs place ≡ Some flow →
          slice_get answer.procs place ≡ Some summary → IsCallee widest key.structs (callee_with flow summary)
      own place flow summary is_flow is_summary =
          let is = summary-of flow summary (place, (is_flow, is_summary)) in
          let good = flow-of flow summary (place, (is_flow, is_summary)) in
          record { name = good.name; params = good.params; few = is.few; specs = is.specs }

  -- each call fits it
  call-fits : (flow : Flow) (summary : ProcSummary) → Summarizes key answer flow summary → (at : ℕ) (node : Node) →
      slice_get flow.nodes at ≡ Some node → FitsTable (table_of key answer) node.cmd
  call-fits flow summary (place, (is_flow, is_summary)) at node is_node =
      fits-both key.procs key.callees (own_callees key.procs answer.procs) node.cmd as_callees
      (All-at (λ (one : Node). FitsCall (λ (it : Flow). it.name) (λ (it : Flow). it.params) key.procs one.cmd) flow.nodes at node
      (All-at (FitCalls (λ (it : Flow). it.name)
      (λ (it : Flow). it.params) key.procs) key.procs place flow inductive.is_key.calls.own is_flow) is_node)
      (All-at (λ (one : Node). FitsCall (λ (it : Callee). it.name) (λ (it : Callee). it.params) key.callees one.cmd) flow.nodes at node
      (All-at (FitCalls (λ (it : Callee). it.name)
      (λ (it : Callee). it.params) key.callees) key.procs place flow inductive.is_key.calls.outer is_flow) is_node)
    where
      as_callees : (name : List ℕ) (args : ℕ) → All (λ (one : Flow). one.name ≡ name → length one.params ≡ args) key.procs →
          All (λ (one : Callee). one.name ≡ name → length one.params ≡ args) (own_callees key.procs answer.procs)
      as_callees name args all =
          each_own (λ (one : Callee). one.name ≡ name → length one.params ≡ args) key.procs answer.procs
          (λ at one its is_one is_its. All-at (λ (it : Flow). it.name ≡ name → length it.params ≡ args) key.procs at one all is_one)

  -- ---- a spec of a procedure

  module _ (flow : Flow) (summary : ProcSummary) (summarizes : Summarizes key answer flow summary) (spec : Spec) (cert : Cert)
      (is_spec : IsSpec widest key.structs (length flow.params) spec) (is_cert : IsCert widest key.structs flow cert)
      (rules : IsInductiveCert (task_of key answer flow) spec cert) where
    abbrev task : Task
    task = task_of key answer flow

    abbrev callees : List Callee
    callees = usable_callees key answer

    -- the atoms of well-formed heaps fit their structures, and so they do over the program's
    state-fits : (state : SymState) → IsState widest key.structs (length flow.params) (length flow.slots) state →
        All (FitsAtom program.structs) state.heap.spatial
    state-fits state is =
        fitting_carries program.structs key.structs stands.structs state.heap.spatial
        (well_formed_fits widest key.structs (length flow.params) state.heap is.heap)

    post-fits : (post : Post) → IsPost widest key.structs (length flow.params) post → All (FitsAtom program.structs) post.heap.spatial
    post-fits post is =
        fitting_carries program.structs key.structs stands.structs post.heap.spatial
        (well_formed_fits widest key.structs (length flow.params) post.heap is.heap)

    abbrev Fits : SymState → Type 0
    Fits state = All (FitsAtom program.structs) state.heap.spatial

    states-fit : (at : ℕ) → StatesFit program.structs (states_at cert at)
    states-fit at = ⊎_elim within past (slice_get_cases cert.nodes at).1
      where
        within : (states : List SymState) × (at < length cert.nodes) × (slice_get cert.nodes at ≡ Some states)
            × (slice_index_or cert.nodes at states ≡ states) → All Fits (states_at cert at)
        within (states, below, is, same) =
            All-same Fits (states_at cert at) states (get_or_from_slice_get cert.nodes at states [] is)
            (All-weaker (IsState widest key.structs (length flow.params) (length flow.slots)) Fits state-fits states
            (All-at (AreStates widest key.structs (length flow.params) (length flow.slots)) cert.nodes at states is_cert.nodes is).each)

        past : (length cert.nodes ≤ at) × (slice_get cert.nodes at ≡ None) → All Fits (states_at cert at)
        past (beyond, is) = All-same Fits (states_at cert at) [] (get_or_past cert.nodes at [] beyond) (All-nil Fits)

    exits-fit : PostsFit program.structs cert.exits
    exits-fit =
        All-weaker (IsPost widest key.structs (length flow.params))
        (λ post. All (FitsAtom program.structs) post.heap.spatial) post-fits cert.exits is_cert.exits

    posts-fit : PostsFit program.structs spec.posts
    posts-fit =
        All-weaker (IsPost widest key.structs (length flow.params))
        (λ post. All (FitsAtom program.structs) post.heap.spatial) post-fits spec.posts is_spec.posts

    -- the first rule
    entry : StateLeads program.structs (start_state flow spec.pre) (states_at cert 0)
    entry =
        covered-leads program.structs (states_at cert 0) (states-fit 0) (start_state flow spec.pre) (start_at_node task spec.pre)
        (start-weakens task spec.pre) rules.start

    -- the second to the fourth, of an execution
    step-goes : (at : ℕ) (node : Node) → slice_get flow.nodes at ≡ Some node → (form : SymState) (one : Step) →
        execution task at form ≡ one → DoesNotFail one →
        OfNexts (λ (next : ℕ × SymState). IfSome (at_node task next.0 next.1) (IsCovered (states_at cert next.0))) one →
        OfExits (λ exit. IfSome (at_exit task exit) (IsPostCovered cert.exits)) one →
        GoesOn program callees cert node.cmd form
    step-goes at node is_node form (step.Next nexts exits) answers runs covered left = record {
      nexts = nexts;
      exits = exits;
      executed = execution_is_sound flow key.structs at node form (table_of key answer) nexts exits
          (record {
            is_node = is_node;
            good_table = good-table;
            fits = call-fits flow summary summarizes at node is_node;
            uncut = no-cut key answer node.cmd;
            answers = answers;
          })
          program stands.structs;
      covered =
          All-weaker (λ (next : ℕ × SymState). IfSome (at_node task next.0 next.1) (IsCovered (states_at cert next.0)))
          (λ (next : ℕ × SymState). StateLeads program.structs next.1 (states_at cert next.0))
          (λ next is. covered-leads program.structs (states_at cert next.0) (states-fit next.0) next.1 (at_node task next.0 next.1)
          (at_node-weakens task next.0 next.1) is) nexts covered;
      left = All-weaker (λ exit. IfSome (at_exit task exit) (IsPostCovered cert.exits)) (λ exit. PostLeads program.structs exit cert.exits)
          (λ exit is. covered-post-leads program.structs cert.exits exits-fit exit (at_exit task exit)
          (at_exit-weakens task exit) is) exits left;
    }
    step-goes at node is_node form (step.Fail cause line) answers runs covered left = absurd runs

    state-goes : (at : ℕ) (node : Node) → slice_get flow.nodes at ≡ Some node → (state : SymState) (n : Normal) → MeansTheSame state n →
        IfSome (of_form (λ form. form) n) (λ form. DoesNotFail (execution task at form)) →
        IfSome (of_form (λ form. form) n)
        (λ form. OfNexts (λ (next : ℕ × SymState). IfSome (at_node task next.0 next.1) (IsCovered (states_at cert next.0)))
        (execution task at form)) →
        IfSome (of_form (λ form. form) n)
        (λ form. OfExits (λ exit. IfSome (at_exit task exit) (IsPostCovered cert.exits)) (execution task at form)) →
        GoesOn program callees cert node.cmd state
    state-goes at node is_node state (Is form) means runs covered left =
        cases_go_on program callees cert node.cmd state (form ∷ [])
        (λ s locals heap meets. inl ((means program.structs s locals heap).0 meets))
        (All-cons (GoesOn program callees cert node.cmd) form []
        (step-goes at node is_node form (execution task at form) refl runs covered left) (All-nil (GoesOn program callees cert node.cmd)))
    state-goes at node is_node state Contradiction means runs covered left =
        cases_go_on program callees cert node.cmd state [] (λ s locals heap meets. means program.structs s locals heap meets)
        (All-nil (GoesOn program callees cert node.cmd))

    -- all five
    certified : IsInductive program callees flow spec cert
    certified = record {
      entry = entry;
      states = λ at node is_node k d below.
          let state = slice_index_or (states_at cert at) k d in
          state-goes at node is_node state (normal state) (normal_keeps_meaning state) (rules.runs at k d below) (rules.nexts at k d below)
          (rules.exits at k d below);
      posts = All-weaker (λ exit. IfSome (normal_post exit) (IsPostCovered spec.posts)) (λ exit. PostLeads program.structs exit spec.posts)
          (λ exit is. covered-post-leads program.structs spec.posts posts-fit exit (normal_post exit)
          (normal_post-weakens exit) is) cert.exits rules.posts;
    }

  -- each spec has such a certificate
  all-certified : HasInductiveCerts program key answer
  all-certified flow summary summarizes at spec is_at =
      let is = summary-of flow summary summarizes in
      let within : at < length summary.specs = slice_get_within summary.specs at spec is_at in
      let as_many = is.one_each in
      let found = within-some summary.certs at (omega (arith, within, as_many)) in
      let rules = inductive.specs flow summary summarizes at spec found.0 (is_at, found.1) in (
        found.0,
        found.1,
        certified flow summary summarizes spec found.0
            (All-at (IsSpec widest key.structs (length flow.params)) summary.specs at spec is.specs is_at)
            (All-at (IsCert widest key.structs flow) summary.certs at found.0 is.certs found.1) rules,
      )

pub inductive_is_valid : InductiveIsValid
inductive_is_valid program key answer stands inductive =
    answer_is_valid widest program key answer inductive.is_key stands (all-certified program key answer stands inductive)

pub all_are_valid : AllAreValid
all_are_valid program keys answers each at key answer stand = bottom_up_is_valid program keys answers sound at key answer stand
  where
    sound : (place : ℕ) (one : Key) (its : Answer) → StandAt keys answers place one its → IsSoundAt program keys answers place one its
    sound place one its stood =
        let is : IsInductiveAt program keys answers place one its = each place one its stood in
        record {
          structs = is.structs;
          flows = is.flows;
          sound = λ stands. inductive_is_valid program one its stands is.inductive;
          callees = is.callees;
        }
