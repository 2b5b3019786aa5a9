use Rattle.std.proofs.Common.{◌≡◌, ◌+◌, ◌≤◌, drop, min}
use Rattle.sym_forms.specs.Sizes.{fields_in}
use Rattle.sym_abstract.proofs.rooms.fields_and.Given as goal

abbrev pub invariant-loop-atom : goal.invariant-loop-atom
invariant-loop-atom l = record {
  same : min 4294901761 (l.first + fields_in l.atoms) ≡ min 4294901761 (l.all + fields_in (drop l.atom-index l.atoms));
  small : l.all ≤ 4294901761;
}
