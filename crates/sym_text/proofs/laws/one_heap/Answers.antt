use Rattle.sym_text.proofs.Turns.{heaps_once}
use Rattle.sym_text.proofs.laws.one_heap.Goals as goal

pub returns : goal.returns
returns c = heaps_once
