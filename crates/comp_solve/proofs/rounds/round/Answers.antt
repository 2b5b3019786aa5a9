use Rattle.std.proofs.Common.{◌≡◌, List, sym, ap, ◌∙◌, subst, true}
use Rattle.std.proofs.lemmas.Result.{IfOk-weaker}
use Rattle.solve_laws.specs.declared.parts.Attempt.{Attempt}
use Rattle.solve_laws.specs.Solving.{attempts_under, round}
use Rattle.solve_laws.specs.Standing.{AreFormed, AreTasks}
use Rattle.comp_solve.proofs.rounds.round.Goals as goal

pub attempts_under-requires : goal.attempts_under-requires
attempts_under-requires c =
    subst (AreTasks c.args.key.now) (sym c.in_ok-table.ensures)
    (c.standing_is_well_formed.ensures.tasks c.args.key.now c.args.before.now true c.requires.key c.requires.fit)

pub returns-clause-value : goal.returns-clause-value
returns-clause-value c =
    IfOk-weaker c.attempts_under.result (λ (made : List Attempt). made ≡ attempts_under c.args.key.now c.in_ok-table.table)
    (λ (made : List Attempt). made ≡ round c.args.key.now c.args.before.now)
    (λ (made : List Attempt) is. is ∙ ap (attempts_under c.args.key.now) c.in_ok-table.ensures) c.attempts_under.ensures

pub returns-clause-formed : goal.returns-clause-formed
returns-clause-formed c =
    IfOk-weaker c.attempts_under.result (λ (made : List Attempt). made ≡ attempts_under c.args.key.now c.in_ok-table.table)
    (AreFormed c.args.key.now)
    (λ (made : List Attempt) is.
    subst (AreFormed c.args.key.now) (sym (is ∙ ap (attempts_under c.args.key.now) c.in_ok-table.ensures))
    (c.standing_is_well_formed.ensures.made c.args.key.now c.args.before.now true c.requires.key c.requires.fit))
    c.attempts_under.ensures
