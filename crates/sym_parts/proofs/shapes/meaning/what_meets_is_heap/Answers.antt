-- A sum is a heap.
use Rattle.sym_parts.proofs.ShapesLemmas.Meets.{Meets-is_heap}
use Rattle.sym_parts.proofs.shapes.meaning.what_meets_is_heap.Goals as goal

pub returns : goal.returns
returns c = Meets-is_heap
