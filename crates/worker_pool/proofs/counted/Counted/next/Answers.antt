use Rattle.std.proofs.Common.{◌≡◌, ◌∙◌, sym}
use Rattle.claim_laws.specs.Logs.{published}
use Rattle.worker_pool.proofs.Counting.{published_next}
use Rattle.worker_pool.proofs.counted.Counted.next.Goals as goal

pub invariant_of-self : goal.invariant_of-self
invariant_of-self g c =
    let same : published c.next.new.self.log ≡ published c.args.self.now.book.log =
    published_next c.next.result c.args.worker c.args.self.now.book.log c.next.new.self.log c.next.ensures.log c.next.ensures.err in
    record { number_is = c.args.self.now.number_is ∙ sym same; total_is = c.args.self.now.total_is ∙ sym same }
