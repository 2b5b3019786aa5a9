use Rattle.sym_pure.proofs.WellFormedLaws.{form_is_well_formed}
use Rattle.sym_pure.proofs.laws.form_is_well_formed.Goals as goal

pub returns : goal.returns
returns c = form_is_well_formed
