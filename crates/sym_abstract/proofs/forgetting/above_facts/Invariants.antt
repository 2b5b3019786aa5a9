use Rattle.std.proofs.Common.{◌≡◌, ◌≤◌, ◌^◌, drop}
use Rattle.abstraction_laws.specs.Forgetting.{above}
use Rattle.abstraction_laws.specs.Occurrences.{exps_of_facts}
use Rattle.sym_abstract.proofs.forgetting.above_facts.Given as goal

abbrev pub invariant-loop-fact : goal.invariant-loop-fact
invariant-loop-fact l = record {
  value : above l.first (exps_of_facts l.facts) ≡ above l.last (exps_of_facts (drop l.fact-index l.facts));
  small : l.first ≤ 2 ^ 32 → l.last ≤ 2 ^ 32;
}
