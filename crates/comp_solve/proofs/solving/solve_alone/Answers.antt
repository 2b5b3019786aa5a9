use Rattle.std.proofs.Common.{[], sym, subst, false}
use Rattle.solve_laws.specs.Standing.{AreTasks}
use Rattle.comp_solve.proofs.solving.solve_alone.Goals as goal

pub attempts_under-requires : goal.attempts_under-requires
attempts_under-requires c =
    subst (AreTasks c.args.key.now) (sym c.in_ok-table.ensures)
    (c.standing_is_well_formed.ensures.tasks c.args.key.now [] false c.requires
    (c.standing_is_well_formed.ensures.specs c.args.key.now).none)
