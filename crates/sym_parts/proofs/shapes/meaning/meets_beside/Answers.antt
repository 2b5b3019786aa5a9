-- One assignment serves both: that of the first for the variables that occur there.
use Rattle.sym_parts.proofs.ShapesLemmas.Meets.{Meets-beside, Meets-split}
use Rattle.sym_parts.proofs.shapes.meaning.meets_beside.Goals as goal

pub returns-clause-joined : goal.returns-clause-joined
returns-clause-joined c = Meets-beside

pub returns-clause-parted : goal.returns-clause-parted
returns-clause-parted c = Meets-split
