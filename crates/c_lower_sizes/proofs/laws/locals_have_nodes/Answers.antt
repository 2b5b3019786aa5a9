use Rattle.c_lower_sizes.proofs.DeclaredLocals.{have_a_node_for_each_local}
use Rattle.c_lower_sizes.proofs.laws.locals_have_nodes.Goals as goal

pub returns : goal.returns
returns c = have_a_node_for_each_local
