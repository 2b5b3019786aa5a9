use Rattle.std.proofs.Common.{◌≡◌, drop}
use Rattle.std.specs.List.{list_all}
use Rattle.solve_laws.specs.Certificates.Gaps.{is_next_covered}
use Rattle.certificate_steps.specs.InTask.{task_in}
use Rattle.triple_check.proofs.gaps.are_nexts_covered.Given as goal

abbrev pub invariant-loop-next : goal.invariant-loop-next
invariant-loop-next l = list_all (is_next_covered (task_in l.task) l.cert) l.nexts
    ≡ list_all (is_next_covered (task_in l.task) l.cert) (drop l.next-index l.nexts)
