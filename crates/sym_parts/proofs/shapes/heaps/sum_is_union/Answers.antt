-- The union, and heaps with the same cells being the same.
use Rattle.sym_parts.proofs.ShapesLemmas.Sums.{IsSum-union, IsSum-is_union}
use Rattle.sym_parts.proofs.shapes.heaps.sum_is_union.Goals as goal

pub returns-clause-exists : goal.returns-clause-exists
returns-clause-exists c = IsSum-union

pub returns-clause-only : goal.returns-clause-only
returns-clause-only c = λ structs whole left right sum. IsSum-is_union sum
