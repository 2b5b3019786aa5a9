use Rattle.comp_solve.specs.Tests.{test_of}
use Rattle.comp_solve.proofs.FormedLaws.{again-step, formed-here, formed-within}
use Rattle.comp_solve.proofs.passes.attempts_again.Goals as goal

pub bounds-attempts-place : goal.bounds-attempts-place
bounds-attempts-place c =
    formed-within c.args.key.now c.args.attempts.now c.requires.formed c.as_slice-flows.result.now c.as_slice-flows.ensures
    c.loop-place.place c.loop-place-test.true

pub attempt_again-requires-clause-formed : goal.attempt_again-requires-clause-formed
attempt_again-requires-clause-formed c =
    formed-here c.args.key.now c.args.attempts.now c.requires.formed c.as_slice-flows.result.now c.as_slice-flows.ensures c.loop-place.place
    c.loop-place-test.true
    c.as_slice.result.now c.index-flows-place.result c.index-attempts-place.result c.as_slice.ensures c.index-flows-place.is
    c.index-attempts-place.is

pub loop-place-preserved : goal.loop-place-preserved
loop-place-preserved c =
    again-step (test_of c.args.test) c.args.key.now c.args.table.now c.args.attempts.now c.as_slice-flows.result.now c.as_slice.result.now
    c.loop-place.place c.index-flows-place.result
    c.index-attempts-place.result c.in_ok-attempt_again.field-0 c.loop-place.made c.push.new.self c.as_slice-flows.ensures
    c.as_slice.ensures c.loop-place-test.true
    (formed-within c.args.key.now c.args.attempts.now c.requires.formed c.as_slice-flows.result.now c.as_slice-flows.ensures
    c.loop-place.place c.loop-place-test.true)
    c.index-flows-place.is c.index-attempts-place.is c.in_ok-attempt_again.ensures c.in_ok-push.ensures.ok c.loop-place.invariant
