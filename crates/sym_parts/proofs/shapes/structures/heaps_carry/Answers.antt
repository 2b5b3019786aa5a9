use Rattle.sym_parts.proofs.ShapesLemmas.ContainingShapes.{heap-carries, sum-carries}
use Rattle.sym_parts.proofs.ShapesLemmas.Shapes.{IsSum-over_whole}
use Rattle.sym_parts.proofs.shapes.structures.heaps_carry.Goals as goal

pub returns-clause-heap : goal.returns-clause-heap
returns-clause-heap c = heap-carries

pub returns-clause-sum : goal.returns-clause-sum
returns-clause-sum c = sum-carries

pub returns-clause-whole : goal.returns-clause-whole
returns-clause-whole c = IsSum-over_whole
