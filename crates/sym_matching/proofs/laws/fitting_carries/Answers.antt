use Rattle.sym_matching.proofs.SizeLaws.{fitting_carries}
use Rattle.sym_matching.proofs.laws.fitting_carries.Goals as goal

pub returns : goal.returns
returns c = fitting_carries
