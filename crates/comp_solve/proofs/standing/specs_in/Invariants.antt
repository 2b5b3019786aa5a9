use Rattle.std.proofs.Common.{◌≡◌, ◌++◌, drop, filter_map}
use Rattle.solve_laws.specs.Attempts.{spec_of}
use Rattle.comp_solve.proofs.standing.specs_in.Given as goal

abbrev pub invariant-loop-trial : goal.invariant-loop-trial
invariant-loop-trial l = l.specs ++ filter_map spec_of (drop l.trial-index l.one.trials) ≡ filter_map spec_of l.one.trials
