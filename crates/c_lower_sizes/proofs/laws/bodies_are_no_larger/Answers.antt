use Rattle.c_lower_sizes.proofs.SizedBodies.{are_bodies_no_larger}
use Rattle.c_lower_sizes.proofs.laws.bodies_are_no_larger.Goals as goal

pub returns : goal.returns
returns c = are_bodies_no_larger
