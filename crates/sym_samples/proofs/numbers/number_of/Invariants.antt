use Rattle.std.proofs.Common.{◌≡◌, drop}
use Rattle.sym_samples.specs.Samples.{number_of}
use Rattle.sym_samples.proofs.numbers.number_of.Given as goal

abbrev pub invariant-loop-fact : goal.invariant-loop-fact
invariant-loop-fact l = number_of l.facts l.x ≡ number_of (drop l.fact-index l.facts) l.x
