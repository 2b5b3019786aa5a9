use Rattle.std.proofs.Common.{map}
use Rattle.serde_json.specs.View.{view}
use Rattle.flow_json.specs.Unread.{IsUnread}
use Rattle.summary_json.specs.Answers.{read_summaries}
use Rattle.summary_json.proofs.AnswerLemmas.{err_is, one_read, one_stops}
use Rattle.summary_json.proofs.answers.read_summaries.Goals as goal

pub loop-place-preserved : goal.loop-place-preserved
loop-place-preserved c =
    one_read view c.args.structs.now c.loop-place.summaries c.push.new.self c.args.flows.now c.args.parts.now c.loop-place.place
    c.index-flows-place.result c.index-parts-place.result c.as_slice.result.now c.in_ok-summary.summary
    c.loop-place-test.true c.if-flows-parts.false c.index-parts-place.is c.as_slice.ensures
    c.in_ok-summary.ensures.ok c.in_ok-push.ensures.ok c.loop-place.invariant

pub returns-in_err-summary-clause-err : goal.returns-in_err-summary-clause-err
returns-in_err-summary-clause-err c =
    err_is (λ fault. IsUnread fault (read_summaries c.args.structs.now c.args.flows.now (map view c.args.parts.now)))
    c.from_residual.result c.in_err-summary.field-0.0 c.from_residual.ensures.1
    (one_stops view c.args.structs.now c.loop-place.summaries c.args.flows.now c.args.parts.now c.loop-place.place
    c.index-flows-place.result c.index-parts-place.result c.as_slice.result.now
    c.loop-place-test.true c.if-flows-parts.false c.index-parts-place.is c.as_slice.ensures
    c.loop-place.invariant c.in_err-summary.field-0.0 c.in_err-summary.ensures.err)
