use Rattle.std.proofs.Common.{List, length, map, ap, ◌∙◌, arith}
use Rattle.shape_data.specs.declared.program.Node.{Node}
use Rattle.c_lower_emit.specs.Seen.{loop_seen}
use Rattle.c_lower_marks.specs.Placed.{marks_from, with_marks}
use Rattle.c_lower_marks.proofs.Heading.{marks_from-length, marked_by}
use Rattle.c_lower_marks.proofs.marking.mark.Goals as goal

pub with_marks-requires : goal.with_marks-requires
with_marks-requires c =
    let nodes = c.as_slice.result.now in
    omega (
      arith,
      ap length c.in_ok-marks.ensures,
      marks_from-length c.args.slots.now nodes (map loop_seen c.args.loops.now) 0 nodes,
      ap length c.as_slice.ensures.value,
    )

pub returns : goal.returns
returns c =
    let loops = map loop_seen c.args.loops.now in
    c.with_marks.ensures
    ∙ ap (λ marks. with_marks marks c.args.nodes.items) c.in_ok-marks.ensures
    ∙ ap (λ (nodes : List Node). with_marks (marks_from c.args.slots.now nodes loops 0 nodes) c.args.nodes.items) c.as_slice.ensures.value
    ∙ marked_by c.args.slots.now c.args.nodes.items loops 0 c.args.nodes.items
