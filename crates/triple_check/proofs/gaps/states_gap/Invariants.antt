use Rattle.std.proofs.Common.{◌≡◌, drop}
use Rattle.solve_laws.specs.Certificates.Gaps.{first_found, node_gap}
use Rattle.certificate_steps.specs.InTask.{task_in}
use Rattle.triple_check.proofs.gaps.states_gap.Given as goal

abbrev pub invariant-loop-at : goal.invariant-loop-at
invariant-loop-at l = first_found (node_gap (task_in l.task) l.cert) 0 l.cert.nodes
    ≡ first_found (node_gap (task_in l.task) l.cert) l.at (drop l.at l.cert.nodes)
