use Rattle.std.proofs.Common.{◌≡◌, ◌++◌, drop, map}
use Rattle.solve_laws.specs.Attempts.{specs_in}
use Rattle.comp_solve.proofs.standing.specs_of.Given as goal

abbrev pub invariant-loop-one : goal.invariant-loop-one
invariant-loop-one l = l.specs ++ map specs_in (drop l.one-index l.attempts) ≡ map specs_in l.attempts
