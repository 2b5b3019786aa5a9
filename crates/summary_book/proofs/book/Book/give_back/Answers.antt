-- The claim's row goes, and its end is written down.
use Rattle.std.proofs.Common.{◌≡◌, ◌∙◌, true, refl, sym, subst, arith}
use Rattle.std.proofs.lemmas.Option.{slice_get_within}
use Rattle.claim_core.specs.Views.{IsSolution}
use Rattle.claim_core.specs.declared.event.Event.TheVariants as told
use Rattle.claim_core.specs.Told.{events_of}
use Rattle.claim_laws.specs.Logs.{replay}
use Rattle.summary_book.specs.Held.{IsPlaceOf}
use Rattle.summary_book.specs.Views.{is_own}
use Rattle.summary_book.proofs.Booked.{given_book}
use Rattle.summary_book.proofs.Ends.{end_at}
use Rattle.summary_book.proofs.book.Book.give_back.Goals as goal

pub remove-requires : goal.remove-requires
remove-requires g c =
    let inside = c.self.inside in
    let own : is_own (replay (events_of inside.log.items)) c.args.claim ≡ true =
    subst (λ v. is_own (replay v.log) c.args.claim ≡ true) (sym c.self.view_is) c.requires in
    let place : IsPlaceOf c.args.claim.number inside.out.items c.place_of-at.result =
    subst (λ l. IsPlaceOf c.args.claim.number l c.place_of-at.result) c.deref.ensures.value
    (subst (λ n. IsPlaceOf n c.deref.result.now c.place_of-at.result) c.number-number.ensures c.place_of-at.ensures) in
    let end =
    end_at inside.log.items
    (replay (events_of inside.log.items)).program inside.out.items c.place_of-at.result c.args.claim c.self.invariant.rows_are.out_are own
    place in
    let lt = slice_get_within inside.out.items c.place_of-at.result end.row end.row_at in
    let f = inside.out.ok.0 in
    omega (arith, lt, f)

pub invariant_of-self : goal.invariant_of-self
invariant_of-self g c =
    let inside = c.self.inside in
    let own : is_own (replay (events_of inside.log.items)) c.args.claim ≡ true =
    subst (λ v. is_own (replay v.log) c.args.claim ≡ true) (sym c.self.view_is) c.requires in
    let place : IsPlaceOf c.args.claim.number inside.out.items c.place_of-at.result =
    subst (λ l. IsPlaceOf c.args.claim.number l c.place_of-at.result) c.deref.ensures.value
    (subst (λ n. IsPlaceOf n c.deref.result.now c.place_of-at.result) c.number-number.ensures c.place_of-at.ensures) in
    let end =
    end_at inside.log.items
    (replay (events_of inside.log.items)).program inside.out.items c.place_of-at.result c.args.claim c.self.invariant.rows_are.out_are own
    place in
    given_book (IsSolution g.J.Meaning.solves) inside.log c.push_reserved.new.self inside.parts inside.slots inside.marks inside.out
    inside.revision inside.made c.self.invariant (told.GiveBack c.number-number.result)
    (record {
      items_are = c.push_reserved.ensures.items;
      len_is = c.push_reserved.ensures.len;
    }) c.remove.new.self c.place_of-at.result c.number-number.result end.out refl end.out_at
    (end.number_is ∙ sym c.number-number.ensures)
    c.remove.ensures.items c.remove.ensures.len c.push_reserved.ensures.capacity
