use Rattle.claim_laws.proofs.Defined.{standings_as_defined}
use Rattle.claim_laws.proofs.standings_are_as_defined.Goals as goal

pub returns : goal.returns
returns c = standings_as_defined
