use Rattle.sym_parts.proofs.LawsLemmas.CellLemmas.{put_is_sum}
use Rattle.sym_parts.proofs.laws.cells.put_is_sum.Goals as goal

pub returns : goal.returns
returns c = put_is_sum
