use Rattle.component_keys.specs.Structures.{command_struct}
use Rattle.shape_data.specs.declared.program.Node.{Node}
use Rattle.composed_keys.proofs.Noted.{more_named}
use Rattle.composed_keys.proofs.structures.note_nodes.Goals as goal

pub loop-node-preserved : goal.loop-node-preserved
loop-node-preserved c =
    more_named c.args.structs.now
    (λ (node : Node). command_struct node.cmd) c.args.nodes.now c.loop-node.node-index c.node-item.result c.args.numbers.now.items
    c.loop-node.numbers.items c.note_node.new.numbers.items c.loop-node.invariant c.loop-node-test.true c.node-item.is
    c.in_ok-note_node.ensures
