use Rattle.sym_parts.proofs.LawsLemmas.SegmentLemmas.{cell_is_segment}
use Rattle.sym_parts.proofs.laws.segments.cell_is_segment.Goals as goal

pub returns : goal.returns
returns c = cell_is_segment
