use Rattle.std.proofs.Common.{◌≡◌, ◌+◌, ◌*◌, ◌≤◌, drop}
use Rattle.solve_laws.specs.Attempts.{count_of}
use Rattle.comp_solve.proofs.standing.count_of.Given as goal

abbrev pub invariant-loop-one : goal.invariant-loop-one
invariant-loop-one l = (l.count + count_of (drop l.one-index l.attempts) ≡ count_of l.attempts) × (l.count ≤ 8 * l.one-index)
