use Rattle.std.proofs.Common.{◌∙◌, arith}
use Rattle.c_lower_emit.proofs.Listing.{places_between, places_within, led_is, relisted}
use Rattle.c_lower_emit.proofs.draft_list.redirect_between.Goals as goal

pub redirect_open-requires : goal.redirect_open-requires
redirect_open-requires c =
    let ds = c.args.drafts.now.items in
    let all = places_between c.args.from c.args.past c.open_before-first.result c.open_before-behind.result
    ds c.args.open_at.now.items c.requires.order c.requires.within c.requires.listed
    (c.open_before-first.ensures ds (c.deref.ensures.value ∙ c.requires.listed) (omega (arith, c.requires.order, c.requires.within)))
    (c.open_before-behind.ensures ds (c.deref-2.ensures.value ∙ c.requires.listed) c.requires.within) in
    record {
      order = all.0;
      within = all.1;
      below = places_within ds c.args.open_at.now.items c.requires.listed;
    }

pub returns : goal.returns
returns c =
    let ds = c.args.drafts.now.items in
    let first =
    c.open_before-first.ensures ds (c.deref.ensures.value ∙ c.requires.listed) (omega (arith, c.requires.order, c.requires.within)) in
    let behind = c.open_before-behind.ensures ds (c.deref-2.ensures.value ∙ c.requires.listed) c.requires.within in
    record {
      drafts =
          c.redirect_open.ensures.drafts
          ∙ led_is c.args.ways c.args.from c.args.past c.open_before-first.result c.open_before-behind.result ds c.args.open_at.now.items
          c.requires.order c.requires.within c.requires.listed first behind;
      listed =
          relisted c.args.ways c.args.from c.args.past c.open_before-first.result c.open_before-behind.result ds
          c.redirect_open.new.drafts.items c.args.open_at.now.items c.redirect_open.new.places.items c.requires.order c.requires.within
          c.requires.listed first behind c.redirect_open.ensures.drafts c.redirect_open.ensures.places;
    }
