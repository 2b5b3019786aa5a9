use Rattle.std.proofs.Common.{◌≡◌, ◌+◌, ◌++◌, drop}
use Rattle.abstraction_laws.specs.Forgetting.{forget_slots}
use Rattle.sym_abstract.proofs.forgetting.forget_slots.Given as goal

abbrev pub invariant-loop-slot : goal.invariant-loop-slot
invariant-loop-slot l = forget_slots l.mark l.first 0 l.locals
    ≡ l.made.items ++ forget_slots l.mark (l.first + l.slot) l.slot (drop l.slot l.locals)
