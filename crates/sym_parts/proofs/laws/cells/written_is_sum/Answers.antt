use Rattle.sym_parts.proofs.LawsLemmas.CellLemmas.{written_is_sum}
use Rattle.sym_parts.proofs.laws.cells.written_is_sum.Goals as goal

pub returns : goal.returns
returns c = written_is_sum
