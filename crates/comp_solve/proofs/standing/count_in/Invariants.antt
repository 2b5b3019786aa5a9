use Rattle.std.proofs.Common.{◌≡◌, ◌+◌, ◌≤◌, drop, filter_map, length}
use Rattle.solve_laws.specs.Attempts.{spec_of}
use Rattle.comp_solve.proofs.standing.count_in.Given as goal

abbrev pub invariant-loop-trial : goal.invariant-loop-trial
invariant-loop-trial l =
    (l.count + length (filter_map spec_of (drop l.trial-index l.one.trials)) ≡ length (filter_map spec_of l.one.trials))
    × (l.count ≤ l.trial-index)
