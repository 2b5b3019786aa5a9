use Rattle.std.proofs.Common.{◌≡◌}
use Rattle.abstraction_laws.specs.Repeating.{reduce, size_of}
use Rattle.abstraction_laws.specs.Rooms.{HaveFewFields}
use Rattle.sym_abstract.proofs.repeating.reduce.Given as goal

abbrev pub invariant-loop-heap : goal.invariant-loop-heap
invariant-loop-heap l = record {
  same : reduce l.joins l.locals l.heap ≡ reduce l.joins l.locals l.fn.heap;
  size : l.size ≡ size_of l.heap;
  few : HaveFewFields l.heap.spatial;
}

abbrev pub decreases-loop-heap : goal.decreases-loop-heap
decreases-loop-heap l = l.size
