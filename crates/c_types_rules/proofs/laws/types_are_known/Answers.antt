use Rattle.c_types_rules.proofs.KnownPrograms.{have_known}
use Rattle.c_types_rules.proofs.laws.types_are_known.Goals as goal

pub returns : goal.returns
returns c = have_known
