use Rattle.key_laws.proofs.Worlds.{legal_worlds}
use Rattle.key_laws.proofs.legal_worlds_are_storable.Goals as goal

pub returns : goal.returns
returns g c = legal_worlds g.J.Meaning.solves
