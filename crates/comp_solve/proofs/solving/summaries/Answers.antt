use Rattle.std.proofs.Common.{◌≡◌, List}
use Rattle.std.proofs.lemmas.Result.{IfOk-weaker}
use Rattle.shape_data.specs.declared.answer.ProcSummary.{ProcSummary}
use Rattle.solve_laws.specs.Solving.{solve_alone, solve_together, summaries_by}
use Rattle.comp_solve.proofs.LoopLaws.{solved-alone, solved-together}
use Rattle.comp_solve.proofs.solving.summaries.Goals as goal

pub returns-then-key : goal.returns-then-key
returns-then-key c =
    IfOk-weaker c.solve_together.result (λ (procs : List ProcSummary). procs ≡ solve_together c.args.key.now)
    (λ (procs : List ProcSummary). procs ≡ summaries_by c.args.key.now.recursive c.args.key.now)
    (λ (procs : List ProcSummary) is. solved-together c.args.key.now procs c.if-key.true is) c.solve_together.ensures

pub returns : goal.returns
returns c =
    IfOk-weaker c.solve_alone.result (λ (procs : List ProcSummary). procs ≡ solve_alone c.args.key.now)
    (λ (procs : List ProcSummary). procs ≡ summaries_by c.args.key.now.recursive c.args.key.now)
    (λ (procs : List ProcSummary) is. solved-alone c.args.key.now procs c.if-key.false is) c.solve_alone.ensures
