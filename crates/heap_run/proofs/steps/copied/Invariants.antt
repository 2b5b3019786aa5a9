use Rattle.std.proofs.Common.{◌≡◌, take}
use Rattle.heap_run.proofs.steps.copied.Given as goal

-- the cells so far are copied
abbrev pub invariant-loop-cell : goal.invariant-loop-cell
invariant-loop-cell l = l.copies ≡ take l.cell-index l.cells
