use Rattle.solve_laws.proofs.CandidatesLemmas.PresLaws.{candidates_are_few}
use Rattle.solve_laws.proofs.CandidatesLemmas.SearchFormed.{candidates_are_well_formed}
use Rattle.solve_laws.proofs.candidates.laws.candidates_are_well_formed.Goals as goal

pub returns-clause-formed : goal.returns-clause-formed
returns-clause-formed c = candidates_are_well_formed

pub returns-clause-few : goal.returns-clause-few
returns-clause-few c = candidates_are_few
