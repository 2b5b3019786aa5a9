use Rattle.solve_laws.proofs.SolvedLaws.{solved_is_inductive}
use Rattle.solve_laws.proofs.laws.solved_is_inductive.Goals as goal

pub returns : goal.returns
returns c =
    solved_is_inductive c.candidates_are_well_formed.ensures.few c.candidates_are_well_formed.ensures.formed
    c.done_is_well_formed.ensures.formed c.done_is_inductive.ensures
