use Rattle.std.proofs.Common.{◌<◌, length, get_or, ◌∙◌, arith, length-set}
use Rattle.c_lower_emit.proofs.Listing.{led_turn}
use Rattle.c_lower_emit.proofs.draft_list.redirect_each.Goals as goal

pub loop-place-preserved : goal.loop-place-preserved
loop-place-preserved c =
    let was = c.requires c.loop-place.place-index 0 c.loop-place-test.true in
    let same = c.loop-place.invariant.long in
    let within : get_or c.args.places.now c.loop-place.place-index 0 < length c.loop-place.drafts.items = omega (arith, was, same) in
    record {
      led =
          led_turn c.args.ways c.args.places.now c.loop-place.place-index c.loop-place.drafts.items c.index_mut.result.now
          c.redirect.new.self c.loop-place-test.true within c.index_mut.ensures.value c.redirect.ensures
          ∙ c.loop-place.invariant.led;
      long = length-set c.loop-place.drafts.items _ _ ∙ c.loop-place.invariant.long;
    }
