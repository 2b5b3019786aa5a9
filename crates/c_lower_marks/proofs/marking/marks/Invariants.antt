use Rattle.std.proofs.Common.{◌≡◌, ◌++◌, map, drop}
use Rattle.c_lower_emit.specs.Seen.{loop_seen}
use Rattle.c_lower_marks.specs.Placed.{marks_from}
use Rattle.c_lower_marks.proofs.marking.marks.Given as goal

abbrev pub invariant-loop-place : goal.invariant-loop-place
invariant-loop-place l =
    l.marks.items ++ marks_from l.slots l.nodes (map loop_seen l.loops) l.place (drop l.place l.nodes)
    ≡ marks_from l.slots l.nodes (map loop_seen l.loops) 0 l.nodes
