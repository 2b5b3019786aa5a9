use Rattle.std.proofs.Common.{◌≡◌, [], drop}
use Rattle.sym_canon.specs.FactOrder.{sorted_among}
use Rattle.sym_canon.proofs.facts.sorted_facts.Given as goal

abbrev pub invariant-loop-fact : goal.invariant-loop-fact
invariant-loop-fact l = sorted_among l.facts [] ≡ sorted_among (drop l.fact-index l.facts) l.sorted.items
