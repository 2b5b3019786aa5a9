-- Each procedure goes to the components that call it.
use Rattle.std.proofs.Common.{◌≡◌, ◌<◌, ◌∙◌, ℕ, [], All, length, get_or, sym, ap, subst, arith}
use Rattle.std.specs.Prelude.{slice_index_or}
use Rattle.std.proofs.lemmas.List.{length-map, take_all}
use Rattle.component_keys.specs.Components.{calls_of}
use Rattle.call_components.specs.Reaching.{rows}
use Rattle.composed_keys.specs.declared.rows.Component.{Component as Row}
use Rattle.composed_keys.specs.Rows.{outer_in, outer_row}
use Rattle.composed_keys.specs.Outside.{ArePlaced, ArePutBy, outers}
use Rattle.composed_keys.proofs.Called.{callers_below, is_ahead, outside_more, outside_all}
use Rattle.composed_keys.proofs.outside.rows_of.Goals as goal

pub note_outer-requires-clause-callers : goal.note_outer-requires-clause-callers
note_outer-requires-clause-callers c =
    let number : ℕ = get_or c.args.order.now c.loop-number.number-index 0 in
    let placed : ArePlaced (rows c.args.all.items) (length (rows c.args.calls.now)) c.args.places.now =
    subst (λ n. ArePlaced (rows c.args.all.items) n c.args.places.now)
    (sym (length-map c.args.calls.now (λ row. row.items))) c.requires.places in
    let callees : c.callees_of.result.now ≡ calls_of (rows c.in_ok-callers.callers.items) number =
    c.callees_of.ensures ∙ ap (λ l. calls_of (rows l) number) c.deref.ensures.value in
    subst (All (λ caller. caller < length c.args.places.now)) (sym callees)
    (callers_below (rows c.args.calls.now) (rows c.in_ok-callers.callers.items) c.requires.defined c.in_ok-callers.ensures
    (rows c.args.all.items) c.args.places.now placed number)

pub note_outer-requires-clause-ahead : goal.note_outer-requires-clause-ahead
note_outer-requires-clause-ahead c =
    let placed : ArePlaced (rows c.args.all.items) (length (rows c.args.calls.now)) c.args.places.now =
    subst (λ n. ArePlaced (rows c.args.all.items) n c.args.places.now)
    (sym (length-map c.args.calls.now (λ row. row.items))) c.requires.places in
    let lengths : length (outers c.loop-number.made.items) ≡ length (rows c.args.all.items) =
    length-map c.loop-number.made.items (λ (row : Row). row.outer.items)
    ∙ sym (length-map c.loop-number.made.items (λ (row : Row). row.members.items)) ∙ ap length c.loop-number.invariant.members in
    is_ahead (rows c.args.calls.now) (rows c.in_ok-callers.callers.items) c.requires.defined c.in_ok-callers.ensures
    (rows c.args.all.items) c.args.places.now placed c.args.order.now c.loop-number.number-index
    (outers c.loop-number.made.items) c.loop-number.invariant.outer lengths c.requires.apart c.loop-number-test.true

pub loop-number-preserved : goal.loop-number-preserved
loop-number-preserved c =
    let number : ℕ = get_or c.args.order.now c.loop-number.number-index 0 in
    let same : length (rows c.args.calls.now) ≡ length c.args.calls.now = length-map c.args.calls.now (λ row. row.items) in
    let below : number < length c.args.calls.now = c.requires.order c.loop-number.number-index 0 c.loop-number-test.true in
    let placed : ArePlaced (rows c.args.all.items) (length (rows c.args.calls.now)) c.args.places.now =
    subst (λ n. ArePlaced (rows c.args.all.items) n c.args.places.now) (sym same) c.requires.places in
    let callees : c.callees_of.result.now ≡ calls_of (rows c.in_ok-callers.callers.items) number =
    c.callees_of.ensures ∙ ap (λ l. calls_of (rows l) number) c.deref.ensures.value in
    record {
      members = c.in_ok-note_outer.ensures.members ∙ c.loop-number.invariant.members;
      outer =
          outside_more (rows c.args.calls.now) (rows c.in_ok-callers.callers.items) c.requires.defined c.in_ok-callers.ensures
          (rows c.args.all.items) c.args.places.now placed c.args.order.now c.loop-number.number-index
          (outers c.loop-number.made.items) (outers c.note_outer.new.made.items) c.loop-number.invariant.outer c.loop-number-test.true
          (omega (arith, below, same))
          (subst (λ l. ArePutBy c.args.places.now l (outer_row c.args.places.now number) (outers c.loop-number.made.items)
          (outers c.note_outer.new.made.items)) callees c.in_ok-note_outer.ensures.outer);
    }

pub returns-clause-outer : goal.returns-clause-outer
returns-clause-outer c =
    let placed : ArePlaced (rows c.args.all.items) (length (rows c.args.calls.now)) c.args.places.now =
    subst (λ n. ArePlaced (rows c.args.all.items) n c.args.places.now)
    (sym (length-map c.args.calls.now (λ row. row.items))) c.requires.places in
    let lengths : length (outers c.loop-number.made.items) ≡ length (rows c.args.all.items) =
    length-map c.loop-number.made.items (λ (row : Row). row.outer.items)
    ∙ sym (length-map c.loop-number.made.items (λ (row : Row). row.members.items)) ∙ ap length c.loop-number.invariant.members in
    outside_all (rows c.args.calls.now) (rows c.in_ok-callers.callers.items) c.requires.defined c.in_ok-callers.ensures
    (rows c.args.all.items) c.args.places.now placed c.args.order.now (outers c.loop-number.made.items) lengths
    (subst (λ l. (place : ℕ) → place < length (rows c.args.all.items)
    → slice_index_or (outers c.loop-number.made.items) place []
    ≡ outer_in (rows c.args.calls.now) c.args.places.now l (slice_index_or (rows c.args.all.items) place []))
    (take_all c.loop-number.number-index c.args.order.now c.loop-number-test.false) c.loop-number.invariant.outer)
