use Rattle.solve_laws.proofs.LimitsLemmas.Searched.{candidates_are_storable}
use Rattle.solve_laws.proofs.limits.laws.candidates_are_storable.Goals as goal

pub returns : goal.returns
returns c = candidates_are_storable
