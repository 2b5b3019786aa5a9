use Rattle.std.proofs.Common.{◌≡◌, ◌∙◌, ◌<◌, length, get_or, below_more, refl, subst}
use Rattle.std.proofs.lemmas.List.{get_or_default}
use Rattle.shape_data.specs.declared.answer.ProcSummary.{ProcSummary}
use Rattle.shape_data.specs.declared.program.Flow.{Flow}
use Rattle.shape_data.specs.WellFormed.{storable, IsSummary}
use Rattle.shape_data.proofs.well_formed.are_summaries.Goals as goal

pub loop-place-preserved : goal.loop-place-preserved
loop-place-preserved c k flow summary below =
    below_more (λ k. (flow : Flow) (summary : ProcSummary)
    → IsSummary storable c.args.structs.now (get_or c.args.flows.now k flow) (get_or c.args.summaries.now k summary))
    c.loop-place.place (λ k under flow summary. c.loop-place.invariant k flow summary under) here k below flow summary
  where
    here : (flow : Flow) (summary : ProcSummary)
        → IsSummary storable c.args.structs.now (get_or c.args.flows.now c.loop-place.place flow)
        (get_or c.args.summaries.now c.loop-place.place summary)
    here flow summary =
        let read : IsSummary storable c.args.structs.now c.index-flows-place.result c.index-summaries-place.result =
        c.is_summary.ensures.0 (rw c.if-not-is_summary.false refl) in
        let as_many : length c.args.flows.now ≡ length c.args.summaries.now = c.if-flows-summaries.false in
        let inside : c.loop-place.place < length c.args.summaries.now = rw as_many at c.loop-place-test.true in
        let is_flow : c.index-flows-place.result ≡ get_or c.args.flows.now c.loop-place.place flow =
        c.index-flows-place.is
        ∙ get_or_default c.args.flows.now c.loop-place.place c.index-flows-place.result flow c.loop-place-test.true in
        let is_summary : c.index-summaries-place.result ≡ get_or c.args.summaries.now c.loop-place.place summary =
        c.index-summaries-place.is ∙ get_or_default c.args.summaries.now c.loop-place.place c.index-summaries-place.result summary inside in
        subst (λ (one : ProcSummary). IsSummary storable c.args.structs.now
        (get_or c.args.flows.now c.loop-place.place flow) one) is_summary
        (subst (λ (one : Flow). IsSummary storable c.args.structs.now one c.index-summaries-place.result) is_flow read)
