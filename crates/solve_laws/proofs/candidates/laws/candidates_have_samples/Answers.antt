use Rattle.solve_laws.proofs.CandidatesLemmas.PresLaws.{candidates_have_samples}
use Rattle.solve_laws.proofs.candidates.laws.candidates_have_samples.Goals as goal

pub returns : goal.returns
returns c = candidates_have_samples
