-- A heap that was read is well formed.
use Rattle.sym_text.specs.Grammar.{written}
use Rattle.symbolic_rows.proofs.samples.sample_of.Goals as goal

pub sample-requires : goal.sample-requires
sample-requires c = rw c.as_slice.ensures (c.well_formed_heaps_are_shaped.ensures written _ _ c.in_ok-pre.pre c.in_ok-pre.ensures.formed)
