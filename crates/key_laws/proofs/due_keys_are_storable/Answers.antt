use Rattle.key_laws.proofs.Worlds.{due_keys}
use Rattle.key_laws.proofs.due_keys_are_storable.Goals as goal

pub returns : goal.returns
returns c = due_keys
