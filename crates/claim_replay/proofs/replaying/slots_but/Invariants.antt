use Rattle.std.proofs.Common.{◌≡◌, map}
use Rattle.claim_replay.specs.Values.{slot_value}
use Rattle.claim_laws.specs.World.{but}
use Rattle.claim_replay.proofs.replaying.slots_but.Given as goal

abbrev pub invariant-loop-slot : goal.invariant-loop-slot
invariant-loop-slot l = map slot_value l.kept ≡ but (map slot_value l.yielded) l.members
