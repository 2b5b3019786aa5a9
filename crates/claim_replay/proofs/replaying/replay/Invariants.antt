use Rattle.std.proofs.Common.{◌≡◌, take}
use Rattle.claim_core.specs.Told.{events_of}
use Rattle.claim_replay.specs.Values.{IsWhole, world_value}
use Rattle.claim_laws.specs.Logs.{replay}
use Rattle.claim_replay.proofs.replaying.replay.Given as goal

abbrev pub invariant-loop-event : goal.invariant-loop-event
invariant-loop-event l =
    record { world : world_value l.present.world ≡ replay (events_of (take l.event-index l.log)); whole : IsWhole l.present }
