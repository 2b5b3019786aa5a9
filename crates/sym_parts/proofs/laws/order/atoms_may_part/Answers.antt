use Rattle.sym_parts.proofs.LawsLemmas.OrderLemmas.{same-parted}
use Rattle.sym_parts.proofs.laws.order.atoms_may_part.Goals as goal

pub returns : goal.returns
returns c = same-parted
