use Rattle.bottom_up.proofs.Honest.{honest_known}
use Rattle.bottom_up.proofs.laws.honest_is_from_nothing.Goals as goal

pub returns : goal.returns
returns c = honest_known
