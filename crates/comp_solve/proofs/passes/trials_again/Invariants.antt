use Rattle.std.proofs.Common.{◌≡◌, ◌++◌, drop, map}
use Rattle.certificate_steps.specs.InTask.{task_in}
use Rattle.solve_laws.specs.Solving.{again_with}
use Rattle.comp_solve.specs.Tests.{test_of}
use Rattle.comp_solve.proofs.passes.trials_again.Given as goal

abbrev pub invariant-loop-trial : goal.invariant-loop-trial
invariant-loop-trial l = l.made ++ map (again_with (test_of l.test) (task_in l.task)) (drop l.trial-index l.trials)
    ≡ map (again_with (test_of l.test) (task_in l.task)) l.trials
