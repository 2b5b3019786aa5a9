use Rattle.std.proofs.Common.{◌≡◌, ◌++◌, drop, map}
use Rattle.solve_laws.specs.Attempts.{attempt}
use Rattle.solve_laws.specs.Tables.{task_under}
use Rattle.comp_solve.proofs.attempts.attempts_under.Given as goal

abbrev pub invariant-loop-flow : goal.invariant-loop-flow
invariant-loop-flow l =
    l.attempts ++ map (λ flow. attempt (task_under l.key l.table flow)) (drop l.flow-index l.key.procs)
    ≡ map (λ flow. attempt (task_under l.key l.table flow)) l.key.procs
