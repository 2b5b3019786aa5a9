use Rattle.std.proofs.Common.{◌≡◌, ◌&&◌, ◌++◌, map, drop}
use Rattle.c_lower_rules.specs.Marks.{is_int, assigned_in, slots_that}
use Rattle.c_lower_emit.specs.Seen.{loop_seen}
use Rattle.c_lower_marks.proofs.marking.ints.Given as goal

abbrev pub invariant-loop-slot : goal.invariant-loop-slot
invariant-loop-slot l =
    l.ints.items
    ++ slots_that (λ slot kind. is_int kind && assigned_in l.nodes (map (λ one. loop_seen one.now) l.loops) slot) l.slot
    (drop l.slot l.slots)
    ≡ slots_that (λ slot kind. is_int kind && assigned_in l.nodes (map (λ one. loop_seen one.now) l.loops) slot) 0 l.slots
