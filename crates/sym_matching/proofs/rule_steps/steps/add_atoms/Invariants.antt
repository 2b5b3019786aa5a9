use Rattle.std.proofs.Common.{◌≡◌, ◌++◌, take}
use Rattle.sym_matching.proofs.rule_steps.steps.add_atoms.Given as goal

abbrev pub invariant-loop-atom : goal.invariant-loop-atom
invariant-loop-atom l = l.all ≡ l.initial.all ++ take l.atom-index l.atoms
