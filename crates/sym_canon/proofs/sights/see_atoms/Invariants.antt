use Rattle.std.proofs.Common.{◌≡◌, drop}
use Rattle.sym_canon.specs.Numbering.{sight_atoms}
use Rattle.sym_canon.proofs.sights.see_atoms.Given as goal

abbrev pub invariant-loop-atom : goal.invariant-loop-atom
invariant-loop-atom l = sight_atoms l.which l.atoms l.initial.seen.items ≡ sight_atoms l.which (drop l.atom-index l.atoms) l.seen.items
