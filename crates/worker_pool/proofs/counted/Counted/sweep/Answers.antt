use Rattle.std.proofs.Common.{◌≡◌, ◌∙◌, sym}
use Rattle.claim_laws.specs.Logs.{published, replay}
use Rattle.worker_pool.proofs.Counting.{published_swept}
use Rattle.worker_pool.proofs.counted.Counted.sweep.Goals as goal

pub invariant_of-self : goal.invariant_of-self
invariant_of-self g c =
    let same : published c.sweep.new.self.log ≡ published c.args.self.now.book.log =
    published_swept c.args.self.now.book.log c.sweep.new.self.log (replay c.args.self.now.book.log).out c.sweep.ensures.log in
    record { number_is = c.args.self.now.number_is ∙ sym same; total_is = c.args.self.now.total_is ∙ sym same }
