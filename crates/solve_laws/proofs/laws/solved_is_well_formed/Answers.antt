use Rattle.solve_laws.proofs.SolvedLaws.{solved_is_few, solved_is_well_formed}
use Rattle.solve_laws.proofs.laws.solved_is_well_formed.Goals as goal

pub returns-clause-formed : goal.returns-clause-formed
returns-clause-formed c =
    solved_is_well_formed c.candidates_are_well_formed.ensures.few c.candidates_are_well_formed.ensures.formed
    c.done_is_well_formed.ensures.formed

pub returns-clause-few : goal.returns-clause-few
returns-clause-few c = solved_is_few c.candidates_are_well_formed.ensures.few c.done_is_well_formed.ensures.small
