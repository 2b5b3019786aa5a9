use Rattle.std.proofs.Common.{◌≡◌, ◌++◌, ◌-◌}
use Rattle.sym_samples.specs.Samples.{numbers_from}
use Rattle.sym_samples.proofs.numbers.parameter_values.Given as goal

abbrev pub invariant-loop-x : goal.invariant-loop-x
invariant-loop-x l = numbers_from l.facts l.params 0 ≡ l.all ++ numbers_from l.facts (l.params - l.x) l.x
