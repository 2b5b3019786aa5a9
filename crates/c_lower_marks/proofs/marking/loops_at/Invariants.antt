use Rattle.std.proofs.Common.{◌≡◌, ◌++◌, map, drop}
use Rattle.c_lower_rules.specs.Marks.{loops_at}
use Rattle.c_lower_emit.specs.Seen.{loop_seen}
use Rattle.c_lower_marks.proofs.marking.loops_at.Given as goal

abbrev pub invariant-loop-one : goal.invariant-loop-one
invariant-loop-one l =
    map (λ one. loop_seen one.now) l.found.items ++ loops_at l.place (map loop_seen (drop l.one-index l.loops))
    ≡ loops_at l.place (map loop_seen l.loops)
