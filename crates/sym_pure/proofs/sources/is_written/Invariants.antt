use Rattle.std.proofs.Common.{◌≡◌, drop}
use Rattle.sym_pure.specs.Sources.{is_written}
use Rattle.sym_pure.proofs.sources.is_written.Given as goal

abbrev pub invariant-loop-fact : goal.invariant-loop-fact
invariant-loop-fact l = is_written l.facts l.e l.f ≡ is_written (drop l.fact-index l.facts) l.e l.f
