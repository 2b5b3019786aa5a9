use Rattle.std.proofs.Common.{◌≡◌, drop}
use Rattle.std.specs.Prelude.{zip}
use Rattle.shape_data.specs.declared.answer.ProcSummary.{ProcSummary}
use Rattle.shape_data.specs.declared.program.Flow.{Flow}
use Rattle.solve_laws.specs.Certificates.Gaps.{first_found, first_gap, summary_gap}
use Rattle.solve_laws.specs.Certificates.Inductive.{task_of}
use Rattle.triple_check.proofs.answers.gap_under.Given as goal

abbrev pub invariant-loop-place : goal.invariant-loop-place
invariant-loop-place l =
    first_gap l.key l.answer
    ≡ first_found (λ place (both : Flow × ProcSummary). summary_gap (task_of l.key l.answer both.0) place both.1) l.place
    (zip (drop l.place l.key.procs) (drop l.place l.answer.procs))
