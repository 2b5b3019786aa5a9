use Rattle.std.proofs.Common.{◌≡◌, map, take}
use Rattle.shape_data.specs.Meaning.{value}
use Rattle.sym_samples.specs.Samples.{number_of}
use Rattle.sym_samples.proofs.numbers.values_of.Given as goal

abbrev pub invariant-loop-e : goal.invariant-loop-e
invariant-loop-e l = l.all ≡ map (value (number_of l.facts)) (take l.e-index l.list)
