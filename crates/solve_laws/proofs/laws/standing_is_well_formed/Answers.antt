use Rattle.solve_laws.proofs.SolvedLaws.{specs_fit_keys, standing_is_well_formed, standing_stays_well_formed, tasks_are_well_formed}
use Rattle.solve_laws.proofs.laws.standing_is_well_formed.Goals as goal

pub returns-clause-specs : goal.returns-clause-specs
returns-clause-specs c = specs_fit_keys

pub returns-clause-tasks : goal.returns-clause-tasks
returns-clause-tasks c = tasks_are_well_formed

pub returns-clause-made : goal.returns-clause-made
returns-clause-made c =
    standing_is_well_formed c.candidates_are_well_formed.ensures.few c.candidates_are_well_formed.ensures.formed
    c.done_is_well_formed.ensures.formed

pub returns-clause-kept : goal.returns-clause-kept
returns-clause-kept c =
    standing_stays_well_formed c.candidates_are_well_formed.ensures.few c.candidates_are_well_formed.ensures.formed
    c.done_is_well_formed.ensures.formed
