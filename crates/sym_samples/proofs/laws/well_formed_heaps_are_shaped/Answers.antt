use Rattle.sym_samples.proofs.SampleLaws.{well_formed_is_shaped}
use Rattle.sym_samples.proofs.laws.well_formed_heaps_are_shaped.Goals as goal

pub returns : goal.returns
returns c = well_formed_is_shaped
