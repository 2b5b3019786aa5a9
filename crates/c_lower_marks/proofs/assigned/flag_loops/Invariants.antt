use Rattle.std.proofs.Common.{◌≡◌, map, drop}
use Rattle.c_lower_rules.specs.Marks.{assigned_in}
use Rattle.c_lower_emit.specs.Seen.{loop_seen}
use Rattle.c_lower_marks.specs.Flagged.{flagged}
use Rattle.c_lower_marks.proofs.assigned.flag_loops.Given as goal

abbrev pub invariant-loop-one : goal.invariant-loop-one
invariant-loop-one l =
    flagged (assigned_in l.nodes (map (λ one. loop_seen one.now) (drop l.one-index l.loops))) 0 l.flags
    ≡ flagged (assigned_in l.nodes (map (λ one. loop_seen one.now) l.loops)) 0 l.initial.flags
