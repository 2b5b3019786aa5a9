use Rattle.sym_parts.proofs.LawsLemmas.OrderLemmas.{same-part}
use Rattle.sym_parts.proofs.laws.order.part_may_change.Goals as goal

pub returns : goal.returns
returns c = same-part
