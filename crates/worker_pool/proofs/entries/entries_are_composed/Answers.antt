use Rattle.worker_pool.proofs.Composing.{entries_are_composed}
use Rattle.worker_pool.proofs.entries.entries_are_composed.Goals as goal

pub returns : goal.returns
returns g c = entries_are_composed g.J.Meaning.solves
