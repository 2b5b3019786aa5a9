use Rattle.c_lower_sizes.proofs.SizedBodies.{have_sizes}
use Rattle.c_lower_sizes.proofs.laws.code_has_its_size.Goals as goal

pub returns : goal.returns
returns c = have_sizes
