use Rattle.sym_text.proofs.ShapeLaws.{heap_is_shaped}
use Rattle.sym_text.proofs.laws.well_formed_is_shaped.Goals as goal

pub returns : goal.returns
returns c = heap_is_shaped
