use Rattle.std.proofs.Common.{◌≡◌, ◌++◌, drop}
use Rattle.sym_matching.specs.WantedAtoms.{wanted_from}
use Rattle.matching.proofs.atoms.wanted_of.Given as goal

abbrev pub invariant-loop-atom : goal.invariant-loop-atom
invariant-loop-atom l = (wanted_from 0 l.atoms ≡ l.all ++ wanted_from l.number (drop l.atom-index l.atoms)) × (l.number ≡ l.atom-index)
