use Rattle.sym_parts.proofs.LawsLemmas.SegmentLemmas.{segment_unfolds}
use Rattle.sym_parts.proofs.laws.segments.segment_unfolds.Goals as goal

pub returns : goal.returns
returns c = segment_unfolds
