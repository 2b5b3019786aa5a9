-- Each turn lists the class that the definition lists.
use Rattle.std.proofs.Common.{◌≡◌, ◌<◌, ◌≤◌, ◌-◌, ◌∙◌, [], List, ℕ, All, None, find, length, map, slice_get, sym, subst, arith}
use Rattle.std.proofs.lemmas.List.{length-map}
use Rattle.call_components.specs.Reaching.{rows}
use Rattle.call_components.specs.Tables.{AreAllMarked, is_next_in}
use Rattle.call_components.specs.Waiting.{AreHeld, IsBounded, IsFirst, IsTaken, outside_of, places_in}
use Rattle.call_components.proofs.Held.{none_is_found, taken_is_found, taken_is_listed}
use Rattle.call_components.proofs.ListedByMarks.{turn_first, turn_last, turn_member, turn_within, turn_more, listing_done}
use Rattle.call_components.proofs.Walk.{row_of}
use Rattle.call_components.proofs.listing.in_call_order.Goals as goal

pub loop-turn-init : goal.loop-turn-init
loop-turn-init c = record {
  listing =
      turn_first c.args.names.now c.args.calls.now c.requires.graph c.args.kinds.now c.requires.kinds c.args.all.now c.requires.all
      c.in_ok-marks.marks.items c.in_ok-listed.listed.items
      (c.in_ok-marks.ensures.items_if_clones_equal (λ y e. e)) c.in_ok-listed.ensures.items;
  bounded = c.in_ok-waiting.ensures.bounded;
  waiting =
      subst (λ m. AreHeld (rows c.args.all.now) (map (outside_of c.args.kinds.now (rows c.args.calls.now)) (rows c.args.all.now)) m [] []
      (rows c.in_ok-waiting.waiting.needs.items) (rows c.in_ok-waiting.waiting.waits.items)
      (places_in c.in_ok-waiting.waiting.ready)) c.deref.ensures.value c.in_ok-waiting.ensures.waiting;
}

pub returns-in_default : goal.returns-in_default
returns-in_default c =
    let first : IsFirst c.loop-turn.marks.items (rows c.args.all.now) (places_in c.loop-turn.waiting.ready)
    (places_in c.first_ready.new.ready) None =
    subst (λ o. IsFirst c.loop-turn.marks.items (rows c.args.all.now) (places_in c.loop-turn.waiting.ready)
    (places_in c.first_ready.new.ready) o) c.in_default.is
    (subst (λ m. IsFirst m (rows c.args.all.now) (places_in c.loop-turn.waiting.ready)
    (places_in c.first_ready.new.ready) c.first_ready.result) c.deref-in-loop-turn.ensures.value c.first_ready.ensures) in
    turn_last c.args.names.now c.args.calls.now c.requires.graph c.args.kinds.now c.requires.kinds c.args.all.now c.requires.all
    (length c.args.names.now - c.loop-turn._turn) c.loop-turn.listed.items c.loop-turn.marks.items c.loop-turn.invariant.listing
    (none_is_found c.args.kinds.now (rows c.args.calls.now) c.loop-turn.marks.items (rows c.args.all.now)
    (rows c.loop-turn.waiting.needs.items) (rows c.loop-turn.waiting.waits.items)
    (places_in c.loop-turn.waiting.ready) c.loop-turn.invariant.waiting
    (places_in c.first_ready.new.ready) first)

pub mark_all-requires : goal.mark_all-requires
mark_all-requires c =
    let taken : IsTaken c.loop-turn.marks.items (rows c.args.all.now) (places_in c.loop-turn.waiting.ready)
    (places_in c.first_ready.new.ready) c.in-Some.place =
    subst (λ m. IsTaken m (rows c.args.all.now) (places_in c.loop-turn.waiting.ready)
    (places_in c.first_ready.new.ready) c.in-Some.place) c.deref-in-loop-turn.ensures.value c.in-Some.ensures in
    turn_within c.args.names.now c.args.calls.now c.requires.graph c.args.kinds.now c.requires.kinds c.args.all.now c.requires.all
    c.in-Some.place c.index-all-place.result c.deref-in-loop-turn-3.result.now c.loop-turn.marks.items
    (length c.args.names.now - c.loop-turn._turn) (rows c.loop-turn.listed.items) c.loop-turn.invariant.listing
    (c.loop-turn.invariant.bounded.ready c.in-Some.place taken.there) c.index-all-place.is
    (c.deref-in-loop-turn-3.ensures.value ∙ (c.in_ok-class.ensures.items ∙ c.deref-in-loop-turn-2.ensures.value))

pub wake_each-requires-clause-numbers : goal.wake_each-requires-clause-numbers
wake_each-requires-clause-numbers c =
    let taken : IsTaken c.loop-turn.marks.items (rows c.args.all.now) (places_in c.loop-turn.waiting.ready)
    (places_in c.first_ready.new.ready) c.in-Some.place =
    subst (λ m. IsTaken m (rows c.args.all.now) (places_in c.loop-turn.waiting.ready)
    (places_in c.first_ready.new.ready) c.in-Some.place) c.deref-in-loop-turn.ensures.value c.in-Some.ensures in
    let counts : length c.loop-turn.marks.items ≡ length c.loop-turn.waiting.waits.items =
    c.loop-turn.invariant.listing.lengths ∙ length-map c.args.calls.now (λ row. row.items)
    ∙ sym c.loop-turn.invariant.bounded.numbers_are in
    subst (λ n. All (λ number. number < n) c.deref-in-loop-turn-5.result.now) counts
    (turn_within c.args.names.now c.args.calls.now c.requires.graph c.args.kinds.now c.requires.kinds c.args.all.now c.requires.all
    c.in-Some.place c.index-all-place.result c.deref-in-loop-turn-5.result.now c.loop-turn.marks.items
    (length c.args.names.now - c.loop-turn._turn) (rows c.loop-turn.listed.items) c.loop-turn.invariant.listing
    (c.loop-turn.invariant.bounded.ready c.in-Some.place taken.there) c.index-all-place.is
    (c.deref-in-loop-turn-5.ensures.value ∙ (c.in_ok-class.ensures.items ∙ c.deref-in-loop-turn-2.ensures.value)))

pub loop-turn-preserved : goal.loop-turn-preserved
loop-turn-preserved c =
    let outs : List (List ℕ) = map (outside_of c.args.kinds.now (rows c.args.calls.now)) (rows c.args.all.now) in
    let taken : IsTaken c.loop-turn.marks.items (rows c.args.all.now) (places_in c.loop-turn.waiting.ready)
    (places_in c.first_ready.new.ready) c.in-Some.place =
    subst (λ m. IsTaken m (rows c.args.all.now) (places_in c.loop-turn.waiting.ready)
    (places_in c.first_ready.new.ready) c.in-Some.place) c.deref-in-loop-turn.ensures.value c.in-Some.ensures in
    let lt : c.in-Some.place < length c.args.all.now = c.loop-turn.invariant.bounded.ready c.in-Some.place taken.there in
    let classes : length (rows c.args.all.now) ≡ length c.args.all.now = length-map c.args.all.now (λ row. row.items) in
    let copied = c.in_ok-class.ensures.items ∙ c.deref-in-loop-turn-2.ensures.value in
    let member =
    turn_member c.args.names.now c.args.calls.now c.requires.graph c.args.kinds.now c.requires.kinds c.args.all.now c.requires.all
    c.in-Some.place c.index-all-place.result c.in_ok-class.class.items lt c.index-all-place.is copied in
    let is_found : find (is_next_in c.args.kinds.now (rows c.args.calls.now) c.loop-turn.marks.items) (rows c.args.all.now)
    ≡ slice_get (rows c.args.all.now) c.in-Some.place =
    taken_is_found c.args.kinds.now (rows c.args.calls.now) c.loop-turn.marks.items (rows c.args.all.now)
    (rows c.loop-turn.waiting.needs.items) (rows c.loop-turn.waiting.waits.items)
    (places_in c.loop-turn.waiting.ready) c.loop-turn.invariant.waiting
    (places_in c.first_ready.new.ready) c.in-Some.place (omega (arith, lt, classes)) taken in
    record {
      listing =
          turn_more c.args.names.now c.args.calls.now c.requires.graph c.args.kinds.now c.requires.kinds c.args.all.now c.requires.all
          c.loop-turn._turn c.in-Some.place c.loop-turn.listed.items c.push.new.self.items
          c.loop-turn.marks.items c.mark_all.new.marks.items c.index-all-place.result c.in_ok-class.class c.deref-in-loop-turn-3.result.now
          c.loop-turn-test.true c.loop-turn.invariant.listing is_found lt c.index-all-place.is copied
          c.deref-in-loop-turn-3.ensures.value c.mark_all.ensures.lengths c.mark_all.ensures.marked c.in_ok-push.ensures.items;
      bounded =
          subst (λ n. IsBounded n (length c.args.calls.now) c.wake_each.new.waiting) c.loop-turn.invariant.bounded.classes_are
          (subst (λ n. IsBounded
          (length c.loop-turn.waiting.needs.items) n c.wake_each.new.waiting) c.loop-turn.invariant.bounded.numbers_are
          c.in_ok-wake_each.ensures.bounded);
      waiting =
          subst (λ m. AreHeld (rows c.args.all.now) outs m [] [] (rows c.wake_each.new.waiting.needs.items)
          (rows c.wake_each.new.waiting.waits.items) (places_in c.wake_each.new.waiting.ready)) c.deref-in-loop-turn-4.ensures.value
          (c.in_ok-wake_each.ensures.woken (rows c.args.all.now) outs
          (subst (λ m. AreHeld (rows c.args.all.now) outs m c.deref-in-loop-turn-5.result.now [] (rows c.loop-turn.waiting.needs.items)
          (rows c.loop-turn.waiting.waits.items) (places_in c.first_ready.new.ready)) (sym c.deref-in-loop-turn-4.ensures.value)
          (subst (λ l. AreHeld (rows c.args.all.now) outs c.mark_all.new.marks.items l [] (rows c.loop-turn.waiting.needs.items)
          (rows c.loop-turn.waiting.waits.items) (places_in c.first_ready.new.ready)) (sym c.deref-in-loop-turn-5.ensures.value)
          (taken_is_listed (rows c.args.all.now) outs c.loop-turn.marks.items c.mark_all.new.marks.items c.in_ok-class.class.items
          (rows c.loop-turn.waiting.needs.items) (rows c.loop-turn.waiting.waits.items) (places_in c.loop-turn.waiting.ready)
          (places_in c.first_ready.new.ready) c.in-Some.place member.0 taken
          (subst (λ l. AreAllMarked l c.loop-turn.marks.items c.mark_all.new.marks.items) c.deref-in-loop-turn-3.ensures.value
          c.mark_all.ensures.marked)
          (copied ∙ sym
          (row_of c.args.all.now c.in-Some.place c.index-all-place.result lt c.index-all-place.is)) member.1
          c.loop-turn.invariant.waiting))));
    }

pub returns : goal.returns
returns c =
    let all : length c.args.names.now ≤ c.loop-turn._turn = c.loop-turn-test.false in
    listing_done c.args.names.now (rows c.args.calls.now) (length c.args.names.now - c.loop-turn._turn)
    (rows c.loop-turn.listed.items) c.loop-turn.marks.items (omega (arith, all)) c.loop-turn.invariant.listing
