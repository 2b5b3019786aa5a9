use Rattle.std.proofs.lemmas.Bool.Decides.{same_from_decides}
use Rattle.solve_laws.specs.Tables.{same_specs}
use Rattle.comp_solve.proofs.FormedLaws.{same_specs-Decides}
use Rattle.comp_solve.proofs.standing.same_specs.Goals as goal

pub returns : goal.returns
returns c =
    same_from_decides c.is_same.result (same_specs c.args.left.now c.args.right.now) c.is_same.ensures
    (same_specs-Decides c.args.left.now c.args.right.now)
