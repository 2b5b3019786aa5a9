use Rattle.component_keys.specs.Structures.{named_by_callee}
use Rattle.composed_keys.proofs.Noted.{more_names}
use Rattle.composed_keys.proofs.structures.note_callees.Goals as goal

pub loop-callee-preserved : goal.loop-callee-preserved
loop-callee-preserved c =
    more_names c.args.structs.now named_by_callee c.args.callees.now c.loop-callee.callee-index c.callee-item.result
    c.args.numbers.now.items c.loop-callee.numbers.items c.note_callee.new.numbers.items c.loop-callee.invariant c.loop-callee-test.true
    c.callee-item.is
    c.in_ok-note_callee.ensures
