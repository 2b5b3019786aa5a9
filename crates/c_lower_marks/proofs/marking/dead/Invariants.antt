use Rattle.std.proofs.Common.{◌≡◌, ◌++◌, not, drop}
use Rattle.c_lower_rules.specs.Marks.{is_listed, slots_that}
use Rattle.c_lower_marks.proofs.marking.dead.Given as goal

abbrev pub invariant-loop-slot : goal.invariant-loop-slot
invariant-loop-slot l =
    l.dead.items ++ slots_that (λ slot kind. not (is_listed l.visible slot)) l.slot (drop l.slot l.slots)
    ≡ slots_that (λ slot kind. not (is_listed l.visible slot)) 0 l.slots
