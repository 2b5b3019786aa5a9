use Rattle.std.specs.Prelude.{◌≡◌}
use Rattle.worker_pool.proofs.desk.Desk.work.Given as goal

abbrev pub invariant-loop : goal.invariant-loop
invariant-loop g l = (goal.iterator-loop g).can_next l.iterator' × (l.tally ≡ 0)
