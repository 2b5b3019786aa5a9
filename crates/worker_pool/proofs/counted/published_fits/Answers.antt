use Rattle.worker_pool.proofs.Counting.{published_fit}
use Rattle.worker_pool.proofs.counted.published_fits.Goals as goal

pub returns : goal.returns
returns g c = published_fit c.log-count.result.now c.args.book.now.log c.log-count.ensures.events c.log-count.type_inv.0
