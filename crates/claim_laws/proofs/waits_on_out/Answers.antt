use Rattle.claim_laws.proofs.Waits.{waits_on_out}
use Rattle.claim_laws.proofs.waits_on_out.Goals as goal

pub returns : goal.returns
returns c = waits_on_out
