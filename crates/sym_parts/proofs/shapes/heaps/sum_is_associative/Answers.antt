-- The union of the two that are put together.
use Rattle.sym_parts.proofs.ShapesLemmas.Sums.{IsSum-to_left, IsSum-to_right, union-assoc}
use Rattle.sym_parts.proofs.shapes.heaps.sum_is_associative.Goals as goal

pub returns-clause-to_left : goal.returns-clause-to_left
returns-clause-to_left c = λ structs whole first others second third outer inner. IsSum-to_left outer inner

pub returns-clause-to_right : goal.returns-clause-to_right
returns-clause-to_right c = λ structs whole both first second third outer inner. IsSum-to_right outer inner

pub returns-clause-unions : goal.returns-clause-unions
returns-clause-unions c = union-assoc
