use Rattle.sym_parts.proofs.LawsLemmas.CellLemmas.{without_is_rest}
use Rattle.sym_parts.proofs.laws.cells.without_is_rest.Goals as goal

pub returns : goal.returns
returns c = without_is_rest
