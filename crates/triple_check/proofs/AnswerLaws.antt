-- The analysis of a procedure of a well-formed key is well formed; and what no gap says of an answer.
use Rattle.std.specs.Prelude.{◌≡◌, ◌↔◌, ℕ, ◌<◌, true, false, List, length, slice_get, slice_index_or, All, IsTrue}
use Rattle.std.specs.declared.option.Option.TheVariants.{None, Some}
use Rattle.std.proofs.Common.{refl, sym, subst}
use Rattle.std.proofs.lemmas.List.Elements.{All-append}
use Rattle.std.proofs.lemmas.Option.{get_or_from_slice_get, slice_get_read, slice_get_within}
use Rattle.shape_data.specs.declared.answer.Answer.{Answer}
use Rattle.shape_data.specs.declared.answer.Callee.{Callee}
use Rattle.shape_data.specs.declared.answer.Key.{Key}
use Rattle.shape_data.specs.declared.answer.ProcSummary.{ProcSummary}
use Rattle.shape_data.specs.declared.program.Flow.{Flow}
use Rattle.shape_data.specs.declared.program.Node.{Node}
use Rattle.shape_data.specs.declared.program.Program.{Program}
use Rattle.shape_data.specs.declared.program.StructDef.{StructDef}
use Rattle.shape_data.specs.WellFormed.{FitCalls, FitsCall, IsAnswer, IsCallee, IsFlow, IsKey, IsSummary, widest}
use Rattle.sym_parts.proofs.ShapesLemmas.StepsStacks.{All-at}
use Rattle.sound_laws.specs.Answers.{AreValidIn, StandsIn, callee_with, own_callees}
use Rattle.sound_laws.proofs.AnswerLemmas.{each_own}
use Rattle.sound_laws.proofs.ProcedureLemmas.{each_place}
use Rattle.exec_laws.specs.declared.parts.Table.{Table}
use Rattle.exec_laws.specs.Laws.{IsTableWithin, callees_of}
use Rattle.solve_laws.specs.declared.certificates.parts.Gap.{Gap}
use Rattle.solve_laws.specs.Certificates.Gaps.{first_gap}
use Rattle.solve_laws.specs.Certificates.Inductive.{Inductive, table_of, task_of}
use Rattle.solve_laws.specs.Certificates.Limits.{analysable}
use Rattle.solve_laws.proofs.CertificatesLemmas.GapLaws.{no_gap}
use Rattle.solve_laws.proofs.CertificatesLemmas.LimitLaws as limits
use Rattle.solve_laws.proofs.CertificatesLemmas.SoundnessLaws.{fits-both, inductive_is_valid}
use Rattle.solve_laws.specs.Certificates.Conditions.{IsTask}

module _ (key : Key) (answer : Answer) (is_key : IsKey analysable key) (is_answer : IsAnswer analysable key answer) where
  summary-of : (place : ℕ) (flow : Flow) (summary : ProcSummary) → slice_get key.procs place ≡ Some flow →
      slice_get answer.procs place ≡ Some summary → IsSummary analysable key.structs flow summary
  summary-of place flow summary is_flow is_summary =
      let here : slice_index_or key.procs place flow ≡ flow = get_or_from_slice_get key.procs place flow flow is_flow in
      let there : slice_index_or answer.procs place summary ≡ summary =
      get_or_from_slice_get answer.procs place summary summary is_summary in
      let is = is_answer.each place flow summary (slice_get_within key.procs place flow is_flow) in
      subst (λ one. IsSummary analysable key.structs one summary) here
      (subst (λ one. IsSummary analysable key.structs (slice_index_or key.procs place flow) one) there is)

  good-table : IsTableWithin key.structs 96 (table_of key answer)
  good-table =
      All-append (IsCallee analysable key.structs) (own_callees key.procs answer.procs) key.callees
      (each_own (IsCallee analysable key.structs) key.procs answer.procs own) is_key.callees.each
    where
      own : (place : ℕ) (flow : Flow) (summary : ProcSummary) → slice_get key.procs place ≡ Some flow →
          slice_get answer.procs place ≡ Some summary → IsCallee analysable key.structs (callee_with flow summary)
      own place flow summary is_flow is_summary =
          let is = summary-of place flow summary is_flow is_summary in
          let good = All-at (IsFlow key.structs) key.procs place flow is_key.procs.each is_flow in
          record { name = good.name; params = good.params; few = is.few; specs = is.specs }

  task-good : (place : ℕ) (flow : Flow) → slice_get key.procs place ≡ Some flow → IsTask (task_of key answer flow)
  task-good place flow is_flow = record {
    structs = is_key.structs;
    flow = All-at (IsFlow key.structs) key.procs place flow is_key.procs.each is_flow;
    table = good-table;
    fits =
        each_place (λ (node : Node). FitsCall (λ (it : Callee). it.name) (λ (it : Callee). it.params)
        (callees_of (table_of key answer)) node.cmd) flow.nodes node-fits;
  }
    where
      as_callees : (name : List ℕ) (args : ℕ) → All (λ (one : Flow). one.name ≡ name → length one.params ≡ args) key.procs →
          All (λ (one : Callee). one.name ≡ name → length one.params ≡ args) (own_callees key.procs answer.procs)
      as_callees name args all =
          each_own (λ (one : Callee). one.name ≡ name → length one.params ≡ args) key.procs answer.procs
          (λ at one its is_one is_its. All-at (λ (it : Flow). it.name ≡ name → length it.params ≡ args) key.procs at one all is_one)

      node-fits : (at : ℕ) (node : Node) → slice_get flow.nodes at ≡ Some node →
          FitsCall (λ (it : Callee). it.name) (λ (it : Callee). it.params) (callees_of (table_of key answer)) node.cmd
      node-fits at node is_node =
          fits-both key.procs key.callees (own_callees key.procs answer.procs) node.cmd as_callees
          (All-at (λ (one : Node). FitsCall (λ (it : Flow). it.name) (λ (it : Flow). it.params) key.procs one.cmd) flow.nodes at node
          (All-at (FitCalls (λ (it : Flow). it.name)
          (λ (it : Flow). it.params) key.procs) key.procs place flow is_key.calls.own is_flow) is_node)
          (All-at (λ (one : Node). FitsCall (λ (it : Callee). it.name) (λ (it : Callee). it.params) key.callees one.cmd) flow.nodes at node
          (All-at (FitCalls (λ (it : Callee). it.name)
          (λ (it : Callee). it.params) key.callees) key.procs place flow is_key.calls.outer is_flow) is_node)

  -- the same with structures and a table that are equal
  pub task-is-good : (place : ℕ) (flow : Flow) (flows : List Flow) (structs : List StructDef) (table : Table) → flows ≡ key.procs →
      structs ≡ key.structs → table ≡ table_of key answer →
      place < length flows → flow ≡ slice_index_or flows place flow →
      IsTask (record { flow = flow; structs = structs; table = table; recursive = key.recursive })
  task-is-good place flow flows structs table same_flows same_structs same_table within is =
      let stands : slice_get flows place ≡ Some flow = slice_get_read flows (length flows) place flow refl within is in
      let good = task-good place flow (subst (λ all. slice_get all place ≡ Some flow) same_flows stands) in
      subst (λ all. IsTask (record { flow = flow; structs = all; table = table; recursive = key.recursive })) (sym same_structs)
      (subst (λ one. IsTask (record { flow = flow; structs = key.structs; table = one; recursive = key.recursive })) (sym same_table) good)

  -- ---- no gap

  exact : (first_gap key answer ≡ None) ↔ Inductive key answer
  exact =
      no_gap key answer (limits.key_widens analysable widest key limits.storable_is_analysable.1 is_key)
      (limits.answer_widens analysable widest key answer limits.storable_is_analysable.1 is_answer)

  pub none-exact : first_gap key answer ≡ None → IsTrue true ↔ Inductive key answer
  none-exact none = (λ t. exact.0 none, λ is. refl)

  pub some-exact : (gap : Gap) → first_gap key answer ≡ Some gap → IsTrue false ↔ Inductive key answer
  some-exact gap some = (λ t. cc, λ is. let none : first_gap key answer ≡ None = exact.1 is in cc)

  pub none-sound : first_gap key answer ≡ None → (program : Program) → StandsIn program key → AreValidIn program key answer
  none-sound none program stands = inductive_is_valid program key answer stands (exact.0 none)
