-- What is next, and what is collected, is said of the log once the program was met.
use Rattle.std.proofs.Common.{◌∙◌}
use Rattle.summary_book.specs.declared.answers.Next.TheVariants as next
use Rattle.worker_pool.proofs.Meeting.{all_once_met, collected_once_met, next_once_met, still_present}
use Rattle.worker_pool.proofs.locked.Locked.turn.Goals as goal

pub returns-in-Yours-clause-program : goal.returns-in-Yours-clause-program
returns-in-Yours-clause-program g c =
    still_present c.meet.new.self.counted.book.log c.next.new.self.book.log 0 c.in_ok-claim.field-0 c.in_ok-claim.ensures.log ∙
    c.in_ok-meet.ensures.program

pub returns-in-Yours-clause-next : goal.returns-in-Yours-clause-next
returns-in-Yours-clause-next g c =
    next_once_met c.args.self.now.counted.book.log c.meet.new.self.counted.book.log c.args.program.now.value c.args.aim.now
    c.in_ok-claim.field-0 (next.Yours c.in-Yours.claim) c.in_ok-meet.ensures.log c.in_ok-meet.ensures.program c.in-Yours.is
    c.in_ok-claim.ensures.next

pub returns-in-Waits-clause-next : goal.returns-in-Waits-clause-next
returns-in-Waits-clause-next g c =
    next_once_met c.args.self.now.counted.book.log c.meet.new.self.counted.book.log c.args.program.now.value c.args.aim.now
    c.in_ok-claim.field-0 (next.Waits c.in-Waits.claim) c.in_ok-meet.ensures.log c.in_ok-meet.ensures.program c.in-Waits.is
    c.in_ok-claim.ensures.next

pub returns-in_ok-collect-in-All-clause-turn : goal.returns-in_ok-collect-in-All-clause-turn
returns-in_ok-collect-in-All-clause-turn g c = (
  collected_once_met g.J.Meaning.solves c.args.self.now.counted.book.log c.next.new.self.book.log c.args.program.now.value
      c.args.aim.now c.collect.new.hands.seen c.in_ok-collect-in-All.field-0.items
      (all_once_met c.args.self.now.counted.book.log c.meet.new.self.counted.book.log c.next.new.self.book.log c.args.program.now.value 0
      c.in_ok-claim.field-0 c.in_ok-meet.ensures.log c.in-All.is c.in_ok-claim.ensures.log)
      (still_present c.meet.new.self.counted.book.log c.next.new.self.book.log 0 c.in_ok-claim.field-0 c.in_ok-claim.ensures.log ∙
      c.in_ok-meet.ensures.program)
      c.in_ok-collect-in-All.ensures.entries c.in_ok-collect-in-All.ensures.slots c.in_ok-collect-in-All.ensures.seen,
  c.in_ok-collect-in-All.ensures.count,
)
