use Rattle.std.proofs.Common.{take}
use Rattle.std.specs.Prelude.{All}
use Rattle.sym_parts.specs.Laws.Each.{EachInFact}
use Rattle.sym_samples.specs.Laws.{IsLow}
use Rattle.sym_samples.proofs.numbers.facts_have_bits.Given as goal

abbrev pub invariant-loop-place : goal.invariant-loop-place
invariant-loop-place l = All (EachInFact IsLow) (take l.place l.facts)
