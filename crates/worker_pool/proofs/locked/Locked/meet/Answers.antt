use Rattle.worker_pool.proofs.Meeting.{is_present_after}
use Rattle.worker_pool.proofs.locked.Locked.meet.Goals as goal

pub returns-clause-program : goal.returns-clause-program
returns-clause-program g c =
    is_present_after c.meet.result c.args.self.now.counted.book.log c.meet.new.self.book.log c.args.program.now.value
    c.meet.ensures.met c.meet.ensures.log
