use Rattle.std.proofs.Common.{drop}
use Rattle.abstraction_laws.specs.Occurrences.{exps_of_atoms}
use Rattle.sym_abstract.specs.Counted.{Adds, Times}
use Rattle.sym_abstract.proofs.occurrences.count_atoms.Given as goal

-- whoever counts what is left has counted all
abbrev pub invariant-loop-atom : goal.invariant-loop-atom
invariant-loop-atom l = (last : Times) → Adds l.counts last (exps_of_atoms (drop l.atom-index l.atoms))
    → Adds l.initial.counts last (exps_of_atoms l.atoms)
