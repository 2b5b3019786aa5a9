use Rattle.std.proofs.Common.{ap, ◌∙◌, arith}
use Rattle.serde_json.specs.View.{view}
use Rattle.serde_json.proofs.Views.{view-Array}
use Rattle.flow_json.specs.Forms.{tuple}
use Rattle.summary_json.proofs.AnswerLemmas.{all_written, one_written}
use Rattle.summary_json.proofs.AnswerTexts.{summary_at}
use Rattle.summary_json.proofs.answers.summaries_value.Goals as goal

pub to_value-requires-clause-fits : goal.to_value-requires-clause-fits
to_value-requires-clause-fits c =
    summary_at c.args.structs.now c.args.flows.now c.args.summaries.now c.loop-place.place
    c.index-flows-place.result c.index-summaries-place.result c.as_slice.result.now
    c.requires.flows c.requires.summaries c.loop-place-test.true c.index-summaries-place.is c.as_slice.ensures

pub loop-place-preserved : goal.loop-place-preserved
loop-place-preserved c =
    rw c.in_ok-push.ensures.ok
    (one_written view c.args.structs.now c.args.flows.now c.args.summaries.now c.loop-place.place
    c.index-flows-place.result c.index-summaries-place.result c.as_slice.result.now
    c.loop-place-test.true c.requires.summaries.one_each c.index-summaries-place.is c.as_slice.ensures
    c.loop-place.values.items c.loop-place.invariant c.in_ok-value.value c.in_ok-value.ensures)

pub returns : goal.returns
returns c =
    view-Array c.loop-place.values
    ∙ ap tuple (c.loop-place.invariant ∙ all_written c.args.structs.now c.args.flows.now c.args.summaries.now c.loop-place.place
    (let same = c.requires.summaries.one_each in let all = c.loop-place-test.false in omega arith)
    (let all = c.loop-place-test.false in omega arith))
