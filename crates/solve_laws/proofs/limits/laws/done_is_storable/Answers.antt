use Rattle.solve_laws.proofs.LimitsLemmas.Annotated.{done_is_storable}
use Rattle.solve_laws.proofs.limits.laws.done_is_storable.Goals as goal

pub returns : goal.returns
returns c = done_is_storable
