use Rattle.std.proofs.Common.{◌≡◌, ◌++◌, drop, take}
use Rattle.shape_data.specs.declared.machine.Cell.{Cell}
use Rattle.shape_data.specs.Heap.{put}
use Rattle.sym_samples.proofs.cells.place_of.Given as goal

abbrev pub invariant-loop-place : goal.invariant-loop-place
invariant-loop-place l = (cell : Cell) → cell.at ≡ l.at → put cell l.heap ≡ take l.place l.heap ++ put cell (drop l.place l.heap)
