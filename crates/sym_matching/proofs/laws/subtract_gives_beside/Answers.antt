use Rattle.sym_matching.proofs.GivesLaws.{subtract_gives_beside}
use Rattle.sym_matching.proofs.laws.subtract_gives_beside.Goals as goal

pub returns : goal.returns
returns c = subtract_gives_beside
