use Rattle.c_types_rules.proofs.Places.{have_first_places}
use Rattle.c_types_rules.proofs.laws.first_places.Goals as goal

pub returns : goal.returns
returns c = have_first_places
