use Rattle.claim_replay.specs.Values.{IsWhole}
use Rattle.claim_runs.proofs.tests.two_thousand_events_keep_to_the_world.Given as goal

abbrev pub invariant-loop : goal.invariant-loop
invariant-loop g l = IsWhole l.present
