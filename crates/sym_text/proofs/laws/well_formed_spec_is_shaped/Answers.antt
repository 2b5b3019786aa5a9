use Rattle.sym_text.proofs.ShapeLaws.{spec_is_shaped}
use Rattle.sym_text.proofs.laws.well_formed_spec_is_shaped.Goals as goal

pub returns : goal.returns
returns c = spec_is_shaped
