use Rattle.solve_laws.proofs.SolvedLaws.{solved_has_reasons}
use Rattle.solve_laws.proofs.laws.solved_has_reasons.Goals as goal

pub returns : goal.returns
returns c = solved_has_reasons c.candidates_are_well_formed.ensures.few c.done_is_well_formed.ensures.small
