use Rattle.solve_laws.proofs.LimitsLemmas.Composed.{composed_keys_have_sizes}
use Rattle.solve_laws.proofs.limits.laws.composed_keys_have_sizes.Goals as goal

pub returns : goal.returns
returns c = composed_keys_have_sizes
