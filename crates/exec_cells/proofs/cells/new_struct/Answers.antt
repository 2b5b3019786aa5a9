use Rattle.std.proofs.Common.{sym}
use Rattle.exec_laws.proofs.RoomLemmas.{few_fields}
use Rattle.exec_cells.proofs.cells.new_struct.Goals as goal

pub new_of_def-requires-clause-few : goal.new_of_def-requires-clause-few
new_of_def-requires-clause-few c =
    few_fields c.args.setting.now.structs.now c.args.kind.now c.in-Some.def.now c.requires.setting.structs (sym c.in-Some.ensures)
