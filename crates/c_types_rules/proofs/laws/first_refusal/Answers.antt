use Rattle.c_types_rules.proofs.First.{have_first}
use Rattle.c_types_rules.proofs.laws.first_refusal.Goals as goal

pub returns : goal.returns
returns c = have_first
