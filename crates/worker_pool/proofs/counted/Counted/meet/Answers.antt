use Rattle.std.proofs.Common.{◌≡◌, ◌∙◌, sym}
use Rattle.claim_laws.specs.Logs.{published}
use Rattle.worker_pool.proofs.Counting.{published_met}
use Rattle.worker_pool.proofs.counted.Counted.meet.Goals as goal

pub invariant_of-self : goal.invariant_of-self
invariant_of-self g c =
    let same : published c.meet.new.self.log ≡ published c.args.self.now.book.log =
    published_met c.meet.result c.args.program.now.value c.args.self.now.book c.meet.new.self c.meet.ensures.log c.meet.ensures.err in
    record { number_is = c.args.self.now.number_is ∙ sym same; total_is = c.args.self.now.total_is ∙ sym same }
