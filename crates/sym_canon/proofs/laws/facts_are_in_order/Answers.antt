use Rattle.sym_canon.proofs.OrderLaws.{facts_are_in_order}
use Rattle.sym_canon.proofs.laws.facts_are_in_order.Goals as goal

pub returns : goal.returns
returns c = facts_are_in_order
