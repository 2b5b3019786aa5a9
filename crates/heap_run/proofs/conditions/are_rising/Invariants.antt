use Rattle.std.proofs.Common.{◌↔◌, drop, pos}
use Rattle.shape_data.specs.Heap.{AreRising}
use Rattle.heap_run.proofs.conditions.are_rising.Given as goal

-- the cells that are left decide
abbrev pub invariant-loop-cell : goal.invariant-loop-cell
invariant-loop-cell l = AreRising (pos 0) l.heap ↔ AreRising l.low (drop l.cell-index l.heap)
