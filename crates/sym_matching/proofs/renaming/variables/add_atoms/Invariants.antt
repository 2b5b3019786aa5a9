use Rattle.std.proofs.Common.{◌≡◌, drop}
use Rattle.sym_matching.specs.Variables.{with_atoms}
use Rattle.sym_matching.proofs.renaming.variables.add_atoms.Given as goal

abbrev pub invariant-loop-atom : goal.invariant-loop-atom
invariant-loop-atom l = with_atoms l.initial.names.items l.atoms ≡ with_atoms l.names.items (drop l.atom-index l.atoms)
