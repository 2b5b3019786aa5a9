use Rattle.exec_laws.proofs.ExecutionRooms.{all_rows_keep_well_formed, calls_keep_well_formed}
use Rattle.exec_laws.proofs.laws.calls_keep_well_formed.Goals as goal

pub returns-clause-calls : goal.returns-clause-calls
returns-clause-calls c = calls_keep_well_formed

pub returns-clause-all : goal.returns-clause-all
returns-clause-all c = all_rows_keep_well_formed
