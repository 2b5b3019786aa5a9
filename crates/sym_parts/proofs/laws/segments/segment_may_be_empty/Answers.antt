use Rattle.sym_parts.proofs.LawsLemmas.SegmentLemmas.{segment_may_be_empty}
use Rattle.sym_parts.proofs.laws.segments.segment_may_be_empty.Goals as goal

pub returns : goal.returns
returns c = segment_may_be_empty
