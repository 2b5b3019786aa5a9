use Rattle.sym_parts.proofs.LawsLemmas.SegmentLemmas.{segments_join}
use Rattle.sym_parts.proofs.laws.segments.segments_join.Goals as goal

pub returns : goal.returns
returns c = segments_join
