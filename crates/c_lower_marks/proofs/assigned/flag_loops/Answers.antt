use Rattle.std.proofs.Common.{List, map, refl, ap, ◌∙◌}
use Rattle.std.specs.Borrow.{Bor}
use Rattle.shape_data.specs.declared.program.Node.{Node}
use Rattle.c_lower_rules.specs.Marks.{assigned, nodes_of, assigned_in}
use Rattle.c_lower_emit.specs.declared.loops.Loop.{Loop}
use Rattle.c_lower_emit.specs.Seen.{loop_seen}
use Rattle.c_lower_marks.specs.Flagged.{flagged}
use Rattle.c_lower_marks.proofs.Flagging.{flagged_turn, flagged_end}
use Rattle.c_lower_marks.proofs.assigned.flag_loops.Goals as goal

pub loop-one-preserved : goal.loop-one-preserved
loop-one-preserved c =
    let nodes = c.args.nodes.now in
    flagged_turn (λ (one : Bor Loop). assigned (nodes_of nodes (loop_seen one.now)))
    (λ (loops : List (Bor Loop)). assigned_in nodes (map (λ one. loop_seen one.now) loops)) (λ x xs n. refl) c.args.loops.now
    c.loop-one.one-index c.one-item.result c.loop-one-test.true c.one-item.is _ _ _
    (c.flag_nodes.ensures ∙ ap (λ (some : List Node). flagged (assigned some) 0 c.loop-one.flags) c.nodes_of.ensures)
    c.loop-one.invariant

pub returns : goal.returns
returns c =
    let nodes = c.args.nodes.now in
    flagged_end (λ (one : Bor Loop). assigned (nodes_of nodes (loop_seen one.now)))
    (λ (loops : List (Bor Loop)). assigned_in nodes (map (λ one. loop_seen one.now) loops)) (λ n. refl) c.args.loops.now
    c.loop-one.one-index c.loop-one-test.false _ _ c.loop-one.invariant
