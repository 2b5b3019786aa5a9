-- Heaps with the same cells are the same.
use Rattle.sym_parts.proofs.ShapesLemmas.Sums.{IsSum-empty_left, IsSum-empty_right}
use Rattle.sym_parts.proofs.shapes.heaps.empty_heap_is_unit.Goals as goal

pub returns-clause-left_only : goal.returns-clause-left_only
returns-clause-left_only c = λ structs whole right sum. IsSum-empty_left sum

pub returns-clause-right_only : goal.returns-clause-right_only
returns-clause-right_only c = λ structs whole left sum. IsSum-empty_right sum
