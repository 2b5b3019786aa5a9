use Rattle.sym_pure.proofs.SourcesLaws.{differs_is_sound}
use Rattle.sym_pure.proofs.laws.differs_is_sound.Goals as goal

pub returns : goal.returns
returns c = differs_is_sound
