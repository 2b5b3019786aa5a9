use Rattle.component_keys.specs.Structures.{named_by_flow}
use Rattle.composed_keys.proofs.Noted.{more_names}
use Rattle.composed_keys.proofs.structures.note_flows.Goals as goal

pub loop-flow-preserved : goal.loop-flow-preserved
loop-flow-preserved c =
    more_names c.args.structs.now named_by_flow c.args.flows.now c.loop-flow.flow-index c.flow-item.result c.args.numbers.now.items
    c.loop-flow.numbers.items c.note_flow.new.numbers.items c.loop-flow.invariant c.loop-flow-test.true c.flow-item.is
    c.in_ok-note_flow.ensures
