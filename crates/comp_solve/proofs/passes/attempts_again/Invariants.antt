use Rattle.std.proofs.Common.{◌≡◌, ◌++◌, drop}
use Rattle.solve_laws.specs.Solving.{attempts_again}
use Rattle.comp_solve.specs.Tests.{test_of}
use Rattle.comp_solve.proofs.passes.attempts_again.Given as goal

abbrev pub invariant-loop-place : goal.invariant-loop-place
invariant-loop-place l =
    l.made ++ attempts_again (test_of l.test) l.key l.table (drop l.place l.key.procs) (drop l.place l.attempts)
    ≡ attempts_again (test_of l.test) l.key l.table l.key.procs l.attempts
