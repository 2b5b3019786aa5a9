use Rattle.triple_check.proofs.AnswerLaws.{task-is-good}
use Rattle.triple_check.proofs.answers.gap_under.Goals as goal

pub summary_gap-requires-clause-task : goal.summary_gap-requires-clause-task
summary_gap-requires-clause-task c =
    task-is-good c.args.key.now c.args.answer.now c.requires.key c.requires.answer c.loop-place.place c.index-flows-place.result
    c.as_slice-flows.result.now c.as_slice.result.now c.args.table.now
    c.as_slice-flows.ensures c.as_slice.ensures c.requires.table c.loop-place-test.true c.index-flows-place.is
