use Rattle.std.proofs.Common.{◌≡◌, drop}
use Rattle.sym_parts.specs.Laws.Expressions.{is_among}
use Rattle.sym_pure.specs.Sources.{sources}
use Rattle.sym_pure.proofs.sources.is_source.Given as goal

abbrev pub invariant-loop-atom : goal.invariant-loop-atom
invariant-loop-atom l = is_among l.e (sources l.facts l.atoms) ≡ is_among l.e (sources l.facts (drop l.atom-index l.atoms))
