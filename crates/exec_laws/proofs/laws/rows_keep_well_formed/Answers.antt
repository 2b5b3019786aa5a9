use Rattle.exec_laws.proofs.ExecutionRooms.{rows_keep_well_formed}
use Rattle.exec_laws.proofs.laws.rows_keep_well_formed.Goals as goal

pub returns : goal.returns
returns c = rows_keep_well_formed
