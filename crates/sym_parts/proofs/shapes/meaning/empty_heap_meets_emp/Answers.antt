-- The list of no atoms holds of the empty heap.
use Rattle.sym_parts.proofs.ShapesLemmas.Meets.{Meets-emp}
use Rattle.sym_parts.proofs.shapes.meaning.empty_heap_meets_emp.Goals as goal

pub returns : goal.returns
returns c = Meets-emp
