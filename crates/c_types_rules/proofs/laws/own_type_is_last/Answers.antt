use Rattle.c_types_rules.proofs.OwnTypes.{have_own}
use Rattle.c_types_rules.proofs.laws.own_type_is_last.Goals as goal

pub returns : goal.returns
returns c = have_own
