use Rattle.key_laws.proofs.Formed.{composed_are_formed}
use Rattle.key_laws.proofs.composed_keys_are_formed.Goals as goal

pub returns : goal.returns
returns c = composed_are_formed
