use Rattle.sym_samples.proofs.SampleLaws.{normal_is_met}
use Rattle.sym_samples.proofs.laws.normal_heaps_are_met.Goals as goal

pub returns : goal.returns
returns c = normal_is_met
