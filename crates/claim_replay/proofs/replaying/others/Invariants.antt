use Rattle.std.proofs.Common.{◌≡◌, map}
use Rattle.claim_replay.specs.Values.{out_value}
use Rattle.claim_laws.specs.World.{without}
use Rattle.claim_replay.proofs.replaying.others.Given as goal

abbrev pub invariant-loop-claim : goal.invariant-loop-claim
invariant-loop-claim l = map out_value l.kept ≡ without (map out_value l.yielded) l.number
