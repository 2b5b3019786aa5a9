use Rattle.claim_laws.proofs.Invariant.{replayed_world}
use Rattle.claim_laws.proofs.worlds_are_kept.Goals as goal

pub returns : goal.returns
returns c = replayed_world
