use Rattle.exec_laws.proofs.CallRooms.{found_fits_are_within, subtracted_fits_are_within}
use Rattle.exec_laws.proofs.laws.fits_are_within.Goals as goal

pub returns-clause-subtracted : goal.returns-clause-subtracted
returns-clause-subtracted c = subtracted_fits_are_within

pub returns-clause-found : goal.returns-clause-found
returns-clause-found c = found_fits_are_within
