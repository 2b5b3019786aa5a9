use Rattle.std.proofs.Common.{◌≡◌, ◌++◌, drop}
use Rattle.sym_matching.specs.Covers.{equal_slots}
use Rattle.subtraction.proofs.covering.equal_slots.Given as goal

abbrev pub invariant-loop-slot : goal.invariant-loop-slot
invariant-loop-slot l = equal_slots l.wants l.haves ≡ l.owed.items ++ equal_slots (drop l.slot l.wants) (drop l.slot l.haves)
