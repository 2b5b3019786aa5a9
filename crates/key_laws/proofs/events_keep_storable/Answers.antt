use Rattle.key_laws.proofs.Worlds.{events_keep}
use Rattle.key_laws.proofs.events_keep_storable.Goals as goal

pub returns : goal.returns
returns c = events_keep
