use Rattle.sym_matching.proofs.SizeLaws.{well_formed_fits}
use Rattle.sym_matching.proofs.laws.well_formed_heaps_fit.Goals as goal

pub returns : goal.returns
returns c = well_formed_fits
