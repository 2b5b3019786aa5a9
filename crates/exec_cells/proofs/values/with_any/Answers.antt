use Rattle.std.proofs.Common.{arith}
use Rattle.exec_cells.proofs.LowVariables.{low_room}
use Rattle.exec_cells.proofs.values.with_any.Goals as goal

pub new_existentials-requires : goal.new_existentials-requires
new_existentials-requires c = low_room 1 c.args.pair c.requires (omega arith)
