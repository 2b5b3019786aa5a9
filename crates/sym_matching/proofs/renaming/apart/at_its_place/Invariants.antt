use Rattle.std.proofs.Common.{◌≡◌, drop}
use Rattle.sym_matching.specs.NewVariables.{at_its_place}
use Rattle.sym_matching.proofs.renaming.apart.at_its_place.Given as goal

abbrev pub invariant-loop-place : goal.invariant-loop-place
invariant-loop-place l = at_its_place l.variables l.numbers l.x ≡ at_its_place (drop l.place l.variables) (drop l.place l.numbers) l.x
