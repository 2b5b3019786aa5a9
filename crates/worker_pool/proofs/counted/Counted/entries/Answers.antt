use Rattle.std.proofs.Common.{◌≤◌, vec_len, arith}
use Rattle.std.proofs.lemmas.Result.{IfOk-weaker}
use Rattle.claim_laws.specs.Logs.{replay}
use Rattle.summary_book.specs.Aims.{aimed}
use Rattle.worker_pool.proofs.Settling.{entries_few}
use Rattle.worker_pool.proofs.counted.Counted.entries.Goals as goal

pub returns-clause-count : goal.returns-clause-count
returns-clause-count g c =
    IfOk-weaker c.collect.result _ (λ kept. vec_len kept ≤ c.args.self.now.number)
    (λ kept are.
    let few = entries_few c.args.self.now.book.log (aimed (replay c.args.self.now.book.log).program c.args.aim.now) kept.items are in
    let whole = kept.ok.0 in
    let number = c.args.self.now.number_is in
    omega (arith, few, whole, number)) c.collect.ensures.slots
