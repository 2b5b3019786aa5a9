use Rattle.std.proofs.Common.{◌↔◌, drop}
use Rattle.shape_data.specs.Heap.{HaveShapes}
use Rattle.heap_run.proofs.conditions.have_shapes.Given as goal

-- the cells that are left decide
abbrev pub invariant-loop-cell : goal.invariant-loop-cell
invariant-loop-cell l = HaveShapes l.structs l.heap ↔ HaveShapes l.structs (drop l.cell-index l.heap)
