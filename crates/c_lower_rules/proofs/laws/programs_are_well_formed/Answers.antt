use Rattle.c_lower_rules.proofs.WellFormed.{have_well_formed}
use Rattle.c_lower_rules.proofs.laws.programs_are_well_formed.Goals as goal

pub returns : goal.returns
returns c = have_well_formed
