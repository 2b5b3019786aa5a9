use Rattle.std.proofs.Common.{◌≡◌, ◌++◌, drop, filter_map}
use Rattle.solve_laws.specs.Attempts.{cert_of}
use Rattle.comp_solve.proofs.standing.certs_in.Given as goal

abbrev pub invariant-loop-trial : goal.invariant-loop-trial
invariant-loop-trial l = l.certs ++ filter_map cert_of (drop l.trial-index l.one.trials) ≡ filter_map cert_of l.one.trials
