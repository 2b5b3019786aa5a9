-- One row more.
use Rattle.std.proofs.Common.{◌+◌, take, subst, sym}
use Rattle.std.specs.List.{AllZip}
use Rattle.summary_book.specs.Moved.{IsMoved}
use Rattle.summary_book.proofs.Rowed.{zipped_more}
use Rattle.summary_book.proofs.meeting.out_in.Goals as goal

pub loop-row-preserved : goal.loop-row-preserved
loop-row-preserved c =
    subst (AllZip (IsMoved c.args.log.now c.args.new.now.program.value) (take (c.loop-row.row-index + 1) c.args.out.now))
    (sym c.in_ok-push.ensures.items)
    (zipped_more
    (IsMoved c.args.log.now c.args.new.now.program.value) c.args.out.now c.loop-row.moved.items c.loop-row.row-index _
    c.in_ok-out_row_in.field-0 c.loop-row-test.true c.loop-row.invariant c.in_ok-out_row_in.ensures)
