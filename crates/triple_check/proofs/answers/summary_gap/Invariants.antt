use Rattle.std.proofs.Common.{◌≡◌, drop}
use Rattle.std.specs.Prelude.{option_map, zip}
use Rattle.shape_data.specs.declared.symbolic.Cert.{Cert}
use Rattle.shape_data.specs.declared.symbolic.Spec.{Spec}
use Rattle.solve_laws.specs.Certificates.Gaps.{first_found, placed, spec_gap, summary_gap}
use Rattle.certificate_steps.specs.InTask.{task_in}
use Rattle.triple_check.proofs.answers.summary_gap.Given as goal

abbrev pub invariant-loop-place : goal.invariant-loop-place
invariant-loop-place l =
    summary_gap (task_in l.task) l.proc l.summary
    ≡ first_found (λ place (both : Spec × Cert). option_map (placed l.proc place) (spec_gap (task_in l.task) both.0 both.1)) l.place
    (zip (drop l.place l.summary.specs) (drop l.place l.summary.certs))
