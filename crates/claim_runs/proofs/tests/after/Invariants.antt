use Rattle.claim_replay.specs.Values.{IsWhole}
use Rattle.claim_runs.proofs.tests.after.Given as goal

abbrev pub invariant-loop-place : goal.invariant-loop-place
invariant-loop-place g l = IsWhole l.present
