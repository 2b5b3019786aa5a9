use Rattle.std.proofs.Common.{◌≡◌, drop}
use Rattle.std.specs.List.{list_all}
use Rattle.solve_laws.specs.Certificates.Gaps.{is_exit_covered}
use Rattle.certificate_steps.specs.InTask.{task_in}
use Rattle.triple_check.proofs.gaps.are_exits_covered.Given as goal

abbrev pub invariant-loop-exit : goal.invariant-loop-exit
invariant-loop-exit l = list_all (is_exit_covered (task_in l.task) l.cert) l.exits
    ≡ list_all (is_exit_covered (task_in l.task) l.cert) (drop l.exit-index l.exits)
