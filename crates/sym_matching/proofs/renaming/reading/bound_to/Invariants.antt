use Rattle.std.proofs.Common.{◌≡◌, drop}
use Rattle.sym_matching.specs.Reading.{bound_to}
use Rattle.sym_matching.proofs.renaming.reading.bound_to.Given as goal

abbrev pub invariant-loop-bound : goal.invariant-loop-bound
invariant-loop-bound l = bound_to l.binding l.x ≡ bound_to (drop l.bound-index l.binding) l.x
