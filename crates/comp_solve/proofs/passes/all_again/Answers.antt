use Rattle.std.proofs.Common.{false, sym, ap, ◌∙◌, subst, length}
use Rattle.solve_laws.specs.Laws.{FitKey}
use Rattle.solve_laws.specs.Standing.{AreTasks}
use Rattle.comp_solve.proofs.FormedLaws.{formed-length}
use Rattle.comp_solve.proofs.passes.all_again.Goals as goal

pub table_with-requires : goal.table_with-requires
table_with-requires c = ap length c.as_slice.ensures ∙ c.in_ok-specs.ensures.len
    ∙ formed-length c.args.key.now c.args.attempts.now c.requires.formed

pub attempts_again-requires-clause-tasks : goal.attempts_again-requires-clause-tasks
attempts_again-requires-clause-tasks c =
    subst (AreTasks c.args.key.now) (sym c.in_ok-table.ensures)
    (c.standing_is_well_formed.ensures.tasks c.args.key.now c.as_slice.result.now false c.requires.key
    (subst (FitKey c.args.key.now) (sym (c.as_slice.ensures ∙ c.in_ok-specs.ensures.value))
    ((c.standing_is_well_formed.ensures.specs c.args.key.now).standing c.args.attempts.now c.requires.formed)))
