-- What the tests know of keys and answers that they found well formed.
use Rattle.std.specs.Prelude.{◌≡◌, false, List, [], length, slice_get, slice_index_or}
use Rattle.std.specs.declared.option.Option.TheVariants.{Some}
use Rattle.std.proofs.Common.{sym, subst}
use Rattle.shape_data.specs.declared.answer.Answer.{Answer}
use Rattle.shape_data.specs.declared.answer.Callee.{Callee}
use Rattle.shape_data.specs.declared.answer.Key.{Key}
use Rattle.shape_data.specs.declared.answer.ProcSummary.{ProcSummary}
use Rattle.shape_data.specs.declared.program.Flow.{Flow}
use Rattle.shape_data.specs.declared.program.StructDef.{StructDef}
use Rattle.shape_data.specs.declared.symbolic.Spec.{Spec}
use Rattle.shape_data.specs.WellFormed.{FitCalls, IsAnswer, IsFlow, IsKey, IsSpec, IsSummary, IsSymHeap, storable}
use Rattle.std.proofs.lemmas.Option.{get_or_from_slice_get, slice_get_within}
use Rattle.sym_parts.proofs.ShapesLemmas.StepsStacks.{All-at}
use Rattle.exec_laws.specs.declared.parts.Table.{Table}
use Rattle.solve_laws.specs.Certificates.Conditions.{IsTask}
use Rattle.solve_laws.specs.Certificates.Limits.{analysable}
use Rattle.solve_laws.proofs.CertificatesLemmas.LimitLaws as limits

module _ (key : Key) (is : IsKey storable key) (flow : Flow) (first : slice_get key.procs 0 ≡ Some flow) where
  abbrev table : Table
  table = record { own = []; outer = key.callees; cut = false }

  good : IsTask (record { flow = flow; structs = key.structs; table = table; recursive = key.recursive })
  good = record {
    structs = is.structs;
    flow = All-at (IsFlow key.structs) key.procs 0 flow is.procs.each first;
    table = (limits.key_widens storable analysable key limits.storable_is_analysable.0 is).callees.each;
    fits = All-at (FitCalls (λ (one : Callee). one.name) (λ (one : Callee). one.params) key.callees) key.procs 0 flow is.calls.outer first;
  }

  pub task-examined : (structs : List StructDef) (given : Table) → structs ≡ key.structs → given ≡ table
      → IsTask (record { flow = flow; structs = structs; table = given; recursive = key.recursive })
  task-examined structs given same_structs same_table =
      subst (λ all. IsTask (record { flow = flow; structs = all; table = given; recursive = key.recursive })) (sym same_structs)
      (subst (λ one. IsTask (record { flow = flow; structs = key.structs; table = one; recursive = key.recursive })) (sym same_table) good)

  module _ (answer : Answer) (is_answer : IsAnswer storable key answer) (summary : ProcSummary)
      (stands : slice_get answer.procs 0 ≡ Some summary) where
    summarized : IsSummary storable key.structs flow summary
    summarized =
        let here : slice_index_or key.procs 0 flow ≡ flow = get_or_from_slice_get key.procs 0 flow flow first in
        let there : slice_index_or answer.procs 0 summary ≡ summary = get_or_from_slice_get answer.procs 0 summary summary stands in
        let both = is_answer.each 0 flow summary (slice_get_within key.procs 0 flow first) in
        subst (λ one. IsSummary storable key.structs one summary) here
        (subst (λ one. IsSummary storable key.structs (slice_index_or key.procs 0 flow) one) there both)

    pub pre-examined : (spec : Spec) (structs : List StructDef) → structs ≡ key.structs → slice_get summary.specs 0 ≡ Some spec
        → IsSymHeap analysable structs (length flow.params) spec.pre
    pre-examined spec structs same_structs some =
        let one = All-at (IsSpec storable key.structs (length flow.params)) summary.specs 0 spec summarized.specs some in
        subst (λ all. IsSymHeap analysable all (length flow.params) spec.pre) (sym same_structs)
        (limits.heap storable analysable limits.storable_is_analysable.0 (length flow.params) key.structs spec.pre one.pre)
