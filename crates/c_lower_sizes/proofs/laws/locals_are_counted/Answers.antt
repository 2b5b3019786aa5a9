use Rattle.c_lower_sizes.proofs.SizedBodies.{count_locals}
use Rattle.c_lower_sizes.proofs.laws.locals_are_counted.Goals as goal

pub returns : goal.returns
returns c = count_locals
