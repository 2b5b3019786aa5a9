use Rattle.std.proofs.Common.{◌≡◌, ◌≤◌, ◌^◌, drop}
use Rattle.abstraction_laws.specs.Forgetting.{above}
use Rattle.sym_abstract.proofs.forgetting.above_exps.Given as goal

abbrev pub invariant-loop-e : goal.invariant-loop-e
invariant-loop-e l = record {
  value : above l.first l.list ≡ above l.last (drop l.e-index l.list);
  small : l.first ≤ 2 ^ 32 → l.last ≤ 2 ^ 32;
}
