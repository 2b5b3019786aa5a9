-- Sums of heaps are put together from either end.
use Rattle.sym_parts.proofs.ShapesLemmas.Atoms.{HoldsAtoms-append, HoldsAtoms-split}
use Rattle.sym_parts.proofs.shapes.meaning.atoms_append.Goals as goal

pub returns-clause-joined : goal.returns-clause-joined
returns-clause-joined c = λ structs s left right whole one other sum first second. HoldsAtoms-append structs s left right sum first second

pub returns-clause-parted : goal.returns-clause-parted
returns-clause-parted c = λ structs s left right whole holds. HoldsAtoms-split structs s left right holds
