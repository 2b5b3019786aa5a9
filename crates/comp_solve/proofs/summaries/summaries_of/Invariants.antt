use Rattle.std.proofs.Common.{◌≡◌, ◌++◌, drop}
use Rattle.solve_laws.specs.Attempts.{summaries_of}
use Rattle.comp_solve.proofs.summaries.summaries_of.Given as goal

abbrev pub invariant-loop-place : goal.invariant-loop-place
invariant-loop-place l = l.summaries ++ summaries_of (drop l.place l.flows) (drop l.place l.attempts) ≡ summaries_of l.flows l.attempts
