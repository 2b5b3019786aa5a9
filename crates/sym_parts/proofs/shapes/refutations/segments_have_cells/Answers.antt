use Rattle.sym_parts.proofs.ShapesLemmas.Refuting.{cycle_meets, no_empty_segment}
use Rattle.sym_parts.proofs.shapes.refutations.segments_have_cells.Goals as goal

pub returns-clause-cycle : goal.returns-clause-cycle
returns-clause-cycle c = cycle_meets

pub returns-clause-apart : goal.returns-clause-apart
returns-clause-apart c = no_empty_segment
