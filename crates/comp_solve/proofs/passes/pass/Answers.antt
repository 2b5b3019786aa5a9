use Rattle.std.proofs.Common.{◌≡◌, List, sym, subst}
use Rattle.std.proofs.lemmas.Result.{IfOk-weaker}
use Rattle.solve_laws.specs.declared.parts.Attempt.{Attempt}
use Rattle.solve_laws.specs.Solving.{pass}
use Rattle.solve_laws.specs.Standing.{AreFormed}
use Rattle.comp_solve.proofs.passes.pass.Goals as goal

pub returns-clause-formed : goal.returns-clause-formed
returns-clause-formed c =
    IfOk-weaker c.all_again.result (λ (made : List Attempt). made ≡ pass c.args.key.now c.args.attempts.now) (AreFormed c.args.key.now)
    (λ (made : List Attempt) is. subst (AreFormed c.args.key.now) (sym is)
    (c.standing_is_well_formed.ensures.kept c.args.key.now c.args.attempts.now c.requires.key c.requires.formed).1)
    c.all_again.ensures
