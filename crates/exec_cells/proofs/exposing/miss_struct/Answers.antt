use Rattle.std.proofs.Common.{sym}
use Rattle.exec_laws.proofs.RoomLemmas.{few_fields}
use Rattle.exec_cells.proofs.exposing.miss_struct.Goals as goal

pub miss_struct_of_def-requires-clause-few : goal.miss_struct_of_def-requires-clause-few
miss_struct_of_def-requires-clause-few c =
    few_fields c.args.setting.now.structs.now c.args.kind.now c.in-Some.def.now c.requires.structs (sym c.in-Some.ensures)
