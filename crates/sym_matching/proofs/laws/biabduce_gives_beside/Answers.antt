use Rattle.sym_matching.proofs.GivesLaws.{biabduce_gives_beside}
use Rattle.sym_matching.proofs.laws.biabduce_gives_beside.Goals as goal

pub returns : goal.returns
returns c = biabduce_gives_beside
