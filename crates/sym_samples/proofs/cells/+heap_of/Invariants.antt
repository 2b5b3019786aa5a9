use Rattle.std.proofs.Common.{length}
use Rattle.sym_samples.proofs.cells.+heap_of.Given as goal

abbrev pub decreases-heap_of : goal.decreases-heap_of
decreases-heap_of l = length l.atoms.now
