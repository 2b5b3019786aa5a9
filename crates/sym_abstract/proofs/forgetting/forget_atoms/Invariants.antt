use Rattle.std.proofs.Common.{◌≡◌, ◌+◌, ◌++◌, drop}
use Rattle.abstraction_laws.specs.Forgetting.{forget_atoms}
use Rattle.sym_forms.specs.Sizes.{fields_in}
use Rattle.sym_abstract.proofs.forgetting.forget_atoms.Given as goal

abbrev pub invariant-loop-atom : goal.invariant-loop-atom
invariant-loop-atom l = record {
  made : forget_atoms l.structs l.first l.atoms ≡ l.made.items ++ forget_atoms l.structs l.next (drop l.atom-index l.atoms);
  room : l.next + fields_in (drop l.atom-index l.atoms) ≡ l.first + fields_in l.atoms;
}
