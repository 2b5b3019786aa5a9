use Rattle.std.proofs.Common.{◌≡◌, drop}
use Rattle.solve_laws.specs.Certificates.Gaps.{first_found, node_gap, state_gap}
use Rattle.certificate_steps.specs.InTask.{task_in}
use Rattle.triple_check.proofs.gaps.node_gap.Given as goal

abbrev pub invariant-loop-state : goal.invariant-loop-state
invariant-loop-state l =
    node_gap (task_in l.task) l.cert l.at l.states
    ≡ first_found (λ place state. state_gap (task_in l.task) l.cert l.at state) l.state-index (drop l.state-index l.states)
