use Rattle.std.proofs.Common.{refl}
use Rattle.c_lower_sizes.proofs.laws.examples.Goals as goal

pub returns : goal.returns
returns c = record { short_circuit = refl; updates = refl; stores = refl; loops = refl; two_locals = refl; memory = refl }
