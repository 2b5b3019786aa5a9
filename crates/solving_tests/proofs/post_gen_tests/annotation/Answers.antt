use Rattle.std.specs.Prelude.{◌≡◌, slice_get}
use Rattle.std.specs.declared.option.Option.TheVariants.{Some}
use Rattle.std.proofs.Common.{rules}
use Rattle.post_gen.proofs.Examined.{pre-examined, task-examined}
use Rattle.solving_tests.proofs.post_gen_tests.annotation.Goals as goal

pub annotate-requires-clause-task : goal.annotate-requires-clause-task
annotate-requires-clause-task c =
    let first : slice_get c.args.key.now.procs 0 ≡ Some c.in-Some.flow.now = search rules in
    task-examined c.args.key.now c.requires.key c.in-Some.flow.now first c.as_slice.result.now c.in_ok-table.table c.as_slice.ensures
    c.in_ok-table.ensures

pub annotate-requires-clause-pre : goal.annotate-requires-clause-pre
annotate-requires-clause-pre c =
    let first : slice_get c.args.key.now.procs 0 ≡ Some c.in-Some.flow.now = search rules in
    let stands : slice_get c.args.answer.now.procs 0 ≡ Some c.in-Some-first.summary.now = search rules in
    let some : slice_get c.in-Some-first.summary.now.specs 0 ≡ Some c.in-Some-first-2.spec.now = search rules in
    pre-examined c.args.key.now c.requires.key c.in-Some.flow.now first c.args.answer.now c.requires.answer.answers
    c.in-Some-first.summary.now stands c.in-Some-first-2.spec.now c.as_slice.result.now c.as_slice.ensures some
