use Rattle.std.proofs.Common.{◌+◌, arith}
use Rattle.exec_cells.proofs.LowVariables.{low_room}
use Rattle.exec_cells.proofs.cells.new_of_def.Goals as goal

pub new_existentials-requires : goal.new_existentials-requires
new_existentials-requires c = low_room (c.len.result + 1) c.args.pair c.requires.low (omega arith)
