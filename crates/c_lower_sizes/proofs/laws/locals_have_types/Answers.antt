use Rattle.c_lower_sizes.proofs.DeclaredLocals.{have_local_kinds}
use Rattle.c_lower_sizes.proofs.laws.locals_have_types.Goals as goal

pub returns : goal.returns
returns c = have_local_kinds
