-- Where nothing is left, nothing was added, and a turn follows.
use Rattle.worker_pool.proofs.Meeting.{goes_by_turn, nothing_next}
use Rattle.worker_pool.proofs.locked.Locked.further_turn.Goals as goal

pub returns-in-All-clause-goes : goal.returns-in-All-clause-goes
returns-in-All-clause-goes g c =
    goes_by_turn c.turn.result c.args.self.now.counted.book.log c.next.new.self.book.log c.turn.new.self.counted.book.log
    c.args.program.now.value c.args.aim.now
    (nothing_next c.args.self.now.counted.book.log c.next.new.self.book.log 0 c.in_ok-claim.field-0 c.in-All.is c.in_ok-claim.ensures.log)
    c.turn.ensures.log c.turn.ensures.next
