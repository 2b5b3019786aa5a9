use Rattle.solve_laws.proofs.LimitsLemmas.Solved.{solved_is_storable}
use Rattle.solve_laws.proofs.limits.laws.solved_is_storable.Goals as goal

pub returns : goal.returns
returns c = solved_is_storable
