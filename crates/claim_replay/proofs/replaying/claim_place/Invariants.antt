use Rattle.std.proofs.Common.{◌≡◌, ◌<◌, ℕ, false, get_or}
use Rattle.std.specs.Prelude.{◌==◌}
use Rattle.claim_replay.specs.declared.world.Out.{Out}
use Rattle.claim_replay.proofs.replaying.claim_place.Given as goal

-- no claim before has the number
abbrev pub invariant-loop-place : goal.invariant-loop-place
invariant-loop-place l = (k : ℕ) (d : Out) → k < l.place → ((get_or l.out k d).number == l.number) ≡ false
