use Rattle.std.proofs.Common.{◌≡◌, ◌≤◌, ◌^◌, drop}
use Rattle.abstraction_laws.specs.Forgetting.{above}
use Rattle.abstraction_laws.specs.Occurrences.{exps_of_atoms}
use Rattle.sym_abstract.proofs.forgetting.above_atoms.Given as goal

abbrev pub invariant-loop-atom : goal.invariant-loop-atom
invariant-loop-atom l = record {
  value : above l.first (exps_of_atoms l.atoms) ≡ above l.last (exps_of_atoms (drop l.atom-index l.atoms));
  small : l.first ≤ 2 ^ 32 → l.last ≤ 2 ^ 32;
}
