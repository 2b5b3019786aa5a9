use Rattle.c_lower_sizes.proofs.SizedBodies.{have_as_many_nodes}
use Rattle.c_lower_sizes.proofs.laws.code_has_as_many_nodes.Goals as goal

pub returns : goal.returns
returns c = have_as_many_nodes
