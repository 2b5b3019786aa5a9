use Rattle.std.proofs.Common.{◌≡◌, ◌+◌, List, [], All, sym, subst, take}
use Rattle.std.proofs.lemmas.List.{take_all}
use Rattle.std.proofs.lemmas.List.Elements.{All-push}
use Rattle.shape_data.specs.declared.answer.ProcSummary.{ProcSummary}
use Rattle.shape_data.specs.declared.program.Flow.{Flow}
use Rattle.shape_data.specs.WellFormed.{storable, AreSummaries, HasReason}
use Rattle.claim_core.proofs.Summaries.{summaries_more}
use Rattle.toy_programs.proofs.answers.silent_summaries.Goals as goal

pub loop-flow-preserved : goal.loop-flow-preserved
loop-flow-preserved c = record {
  are = λ structs.
      subst (AreSummaries storable structs (take (c.loop-flow.flow-index + 1) c.args.flows.now)) (sym c.in_ok-push.ensures.ok)
      (summaries_more storable structs c.args.flows.now c.loop-flow.flow-index c.flow-item.result c.loop-flow.summaries
      c.in_ok-silent_summary.field-0 c.loop-flow-test.true c.flow-item.is (c.loop-flow.invariant.are structs)
      (c.in_ok-silent_summary.ensures.is structs));
  reasons =
      subst (All HasReason) (sym c.in_ok-push.ensures.ok)
      (All-push HasReason c.loop-flow.summaries c.in_ok-silent_summary.field-0 c.loop-flow.invariant.reasons
      c.in_ok-silent_summary.ensures.reason);
  silent =
      subst (All (λ (summary : ProcSummary). summary.specs ≡ [])) (sym c.in_ok-push.ensures.ok)
      (All-push (λ (summary : ProcSummary). summary.specs
      ≡ []) c.loop-flow.summaries c.in_ok-silent_summary.field-0 c.loop-flow.invariant.silent c.in_ok-silent_summary.ensures.silent);
}

pub returns-clause-are : goal.returns-clause-are
returns-clause-are c = λ structs.
    subst (λ (l : List Flow). AreSummaries storable structs l c.loop-flow.summaries)
    (take_all c.loop-flow.flow-index c.args.flows.now c.loop-flow-test.false) (c.loop-flow.invariant.are structs)
