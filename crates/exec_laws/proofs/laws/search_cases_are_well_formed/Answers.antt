use Rattle.exec_laws.proofs.SearchRooms.{search_cases_are_well_formed}
use Rattle.exec_laws.proofs.laws.search_cases_are_well_formed.Goals as goal

pub returns : goal.returns
returns c = search_cases_are_well_formed
