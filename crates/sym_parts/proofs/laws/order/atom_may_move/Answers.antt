use Rattle.sym_parts.proofs.LawsLemmas.OrderLemmas.{same-middle}
use Rattle.sym_parts.proofs.laws.order.atom_may_move.Goals as goal

pub returns : goal.returns
returns c = same-middle
