use Rattle.sym_parts.proofs.ShapesLemmas.Refuting.{two_cells_apart}
use Rattle.sym_parts.proofs.shapes.refutations.two_cells_are_apart.Goals as goal

pub returns : goal.returns
returns c = two_cells_apart
