use Rattle.std.proofs.Common.{sym, subst, All}
use Rattle.shape_data.specs.declared.answer.Answer.{Answer}
use Rattle.shape_data.specs.WellFormed.{HasReason, IsAnswer}
use Rattle.solve_laws.specs.Certificates.Inductive.{Inductive}
use Rattle.solve_laws.specs.Certificates.Limits.{analysable}
use Rattle.comp_solve.proofs.LoopLaws.{solved}
use Rattle.comp_solve.proofs.solving.solve.Goals as goal

pub returns-clause-value : goal.returns-clause-value
returns-clause-value c = solved c.args.key.now c.in_ok-procs.procs c.in_ok-procs.ensures

pub returns-clause-inductive : goal.returns-clause-inductive
returns-clause-inductive c =
    subst (Inductive c.args.key.now) (sym (solved c.args.key.now c.in_ok-procs.procs c.in_ok-procs.ensures))
    (c.solved_is_inductive.ensures c.args.key.now c.requires)

pub returns-clause-formed : goal.returns-clause-formed
returns-clause-formed c =
    subst (IsAnswer analysable c.args.key.now) (sym (solved c.args.key.now c.in_ok-procs.procs c.in_ok-procs.ensures))
    (c.solved_is_well_formed.ensures.formed c.args.key.now c.requires)

pub returns-clause-reasons : goal.returns-clause-reasons
returns-clause-reasons c =
    subst (λ (answer : Answer). All HasReason answer.procs) (sym (solved c.args.key.now c.in_ok-procs.procs c.in_ok-procs.ensures))
    (c.solved_has_reasons.ensures c.args.key.now)
