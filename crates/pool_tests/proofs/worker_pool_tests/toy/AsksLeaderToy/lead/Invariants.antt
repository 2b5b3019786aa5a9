use Rattle.std.specs.Prelude.{◌≤◌}
use Rattle.pool_tests.proofs.worker_pool_tests.toy.AsksLeaderToy.lead.Given as goal

abbrev pub invariant-loop-program : goal.invariant-loop-program
invariant-loop-program g l = l.most ≤ l.hands.seen
