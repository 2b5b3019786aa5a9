-- Both unions are the one sum.
use Rattle.sym_parts.proofs.ShapesLemmas.Sums.{union-comm}
use Rattle.sym_parts.proofs.shapes.heaps.sum_is_commutative.Goals as goal

pub returns-clause-unions : goal.returns-clause-unions
returns-clause-unions c = union-comm
