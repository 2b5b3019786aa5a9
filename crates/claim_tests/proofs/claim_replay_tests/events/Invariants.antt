use Rattle.std.proofs.Common.{All}
use Rattle.claim_replay.specs.Values.{IsFormed}
use Rattle.claim_tests.proofs.claim_replay_tests.events.Given as goal

abbrev pub invariant-loop-step : goal.invariant-loop-step
invariant-loop-step g l = All IsFormed l.log.items
