use Rattle.std.proofs.Common.{◌≡◌, ◌++◌, drop, map}
use Rattle.certificate_steps.specs.InTask.{task_in}
use Rattle.solve_laws.specs.Attempts.{try}
use Rattle.comp_solve.proofs.attempts.trials_of.Given as goal

abbrev pub invariant-loop-pre : goal.invariant-loop-pre
invariant-loop-pre l = l.trials ++ map (try (task_in l.task)) (drop l.pre-index l.pres) ≡ map (try (task_in l.task)) l.pres
