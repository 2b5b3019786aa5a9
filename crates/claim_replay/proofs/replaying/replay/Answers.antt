use Rattle.std.proofs.Common.{◌∙◌, ap, sym}
use Rattle.claim_core.specs.Told.{event_of}
use Rattle.claim_laws.specs.World.{after}
use Rattle.claim_replay.proofs.Happening.{one_more}
use Rattle.claim_replay.proofs.replaying.replay.Goals as goal

pub loop-event-preserved : goal.loop-event-preserved
loop-event-preserved c = record {
  world =
      c.in_ok-present-2.ensures.world ∙ ap (λ w. after w (event_of c.event-item.result)) c.loop-event.invariant.world ∙
      sym (one_more c.args.log.now c.loop-event.event-index c.event-item.result c.loop-event-test.true c.event-item.is);
  whole = c.in_ok-present-2.ensures.whole;
}
