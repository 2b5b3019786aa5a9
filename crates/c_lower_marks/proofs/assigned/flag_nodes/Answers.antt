use Rattle.std.proofs.Common.{refl, ◌∙◌}
use Rattle.shape_data.specs.declared.program.Node.{Node}
use Rattle.c_lower_rules.specs.Marks.{goes_to, assigns, assigned}
use Rattle.c_lower_marks.proofs.Flagging.{flagged_same, flagged_turn, flagged_end}
use Rattle.c_lower_marks.proofs.assigned.flag_nodes.Goals as goal

pub loop-node-preserved : goal.loop-node-preserved
loop-node-preserved c =
    let node = c.node-item.result in
    flagged_turn (λ (one : Node). assigns one.cmd) assigned (λ x xs n. refl) c.args.nodes.now c.loop-node.node-index node
    c.loop-node-test.true c.node-item.is _ _ _
    (c.flag_slot.ensures
    ∙ flagged_same (goes_to c.assigned_slot.result) (assigns node.cmd) c.assigned_slot.ensures 0 c.loop-node.flags)
    c.loop-node.invariant

pub returns : goal.returns
returns c =
    flagged_end (λ (one : Node). assigns one.cmd) assigned (λ n. refl) c.args.nodes.now c.loop-node.node-index c.loop-node-test.false _ _
    c.loop-node.invariant
