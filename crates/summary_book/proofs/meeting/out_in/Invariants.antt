use Rattle.std.proofs.Common.{take}
use Rattle.std.specs.List.{AllZip}
use Rattle.summary_book.specs.Moved.{IsMoved}
use Rattle.summary_book.proofs.meeting.out_in.Given as goal

abbrev pub invariant-loop-row : goal.invariant-loop-row
invariant-loop-row l = AllZip (IsMoved l.log l.new.program.value) (take l.row-index l.out) l.moved.items
