use Rattle.std.proofs.Common.{◌≡◌, ◌<◌, length, get_or, sym, subst, ◌∙◌, arith, rules}
use Rattle.std.proofs.lemmas.List.{get_or_default}
use Rattle.std.proofs.lemmas.List.Filters.{FiltersInPlace-more_set, FiltersInPlace-more_no}
use Rattle.c_lower_emit.specs.OpenPlaces.{is_open_at}
use Rattle.c_lower_emit.proofs.Listing.{same_place, read_open}
use Rattle.c_lower_emit.proofs.draft_list.keep_open.Goals as goal

pub offset_bounds-drafts-place : goal.offset_bounds-drafts-place
offset_bounds-drafts-place c =
    let within : get_or c.loop-index.places c.loop-index.index 0 < length c.args.drafts.now =
    subst (λ n. n < length c.args.drafts.now)
    (same_place c.args.places.now c.loop-index.places c.loop-index.index c.loop-index.invariant.rest)
    (c.requires c.loop-index.index 0 (omega (arith, c.loop-index-test.true, c.loop-index.invariant.long))) in
    search rules

pub bounds-drafts-place : goal.bounds-drafts-place
bounds-drafts-place c =
    subst (λ n. n < length c.args.drafts.now)
    (same_place c.args.places.now c.loop-index.places c.loop-index.index c.loop-index.invariant.rest)
    (c.requires c.loop-index.index 0 (omega (arith, c.loop-index-test.true, c.loop-index.invariant.long)))

pub loop-index-preserved : goal.loop-index-preserved
loop-index-preserved c =
    let was = c.requires c.loop-index.index 0 (omega (arith, c.loop-index-test.true, c.loop-index.invariant.long)) in
    let lt : c.loop-index.index < length c.loop-index.places = omega (arith, c.loop-index-test.true, c.loop-index.invariant.long) in
    let place = get_or c.loop-index.places c.loop-index.index 0 in
    let within : place < length c.args.drafts.now =
    subst (λ n. n < length c.args.drafts.now)
    (same_place c.args.places.now c.loop-index.places c.loop-index.index c.loop-index.invariant.rest) was in
    let read = get_or_default c.loop-index.places c.loop-index.index 0 place lt in
    let is : is_open_at c.args.drafts.now place ≡ c.is_open.result =
    read_open c.args.drafts.now place c.index-drafts-place.result within c.index-drafts-place.is ∙ sym c.is_open.ensures in
    elim c.if-is_open.branch [
      | goal.then-is_open w ↦ rw (w.places-is, w.kept-is) (FiltersInPlace-more_set c.loop-index.invariant lt (is ∙ w.if-is_open.true) read)
      | goal.else-is_open w ↦ rw (w.places-is, w.kept-is) (FiltersInPlace-more_no c.loop-index.invariant lt (is ∙ w.if-is_open.false) read)
    ]
