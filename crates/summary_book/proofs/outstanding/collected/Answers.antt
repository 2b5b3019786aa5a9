-- One component after the other gives its slot's key and answer.
use Rattle.std.proofs.Common.{◌≡◌, ◌<◌, ◌∙◌, length, map, sym, ap, arith}
use Rattle.std.specs.List.{filter, filter_map, range_with_len}
use Rattle.call_components.specs.Reaching.{marked}
use Rattle.claim_core.specs.Told.{events_of}
use Rattle.claim_laws.specs.Logs.{replay, settled_at}
use Rattle.summary_book.specs.Views.{slot_solution}
use Rattle.claim_core.specs.Views.{solution_of}
use Rattle.summary_book.proofs.Collecting.{collected_more, filter_range_out, has_answer, has_key, kept_at, no_slot}
use Rattle.summary_book.proofs.RowLengths.{standings_count}
use Rattle.summary_book.proofs.Rowed.{there_row}
use Rattle.summary_book.proofs.outstanding.collected.Goals as goal

pub unreachable-requires : goal.unreachable-requires
unreachable-requires c =
    let lt : c.loop-place.place
    < length c.args.parts.now.components.items =
    (let t = c.loop-place-test.true in let e = c.len-place-end.ensures in let f = c.args.parts.now.components.ok.0 in omega
    (arith, t, e, f)) in
    let row = there_row c.args.parts.now.components.items c.loop-place.place lt in
    no_slot c.args.log.now c.args.parts.now c.args.slots.now c.requires.sight c.loop-place.place row.0 row.1 c.args.aim.now
    c.requires.settled (sym c.is_marked.ensures ∙ c.if-not-is_marked.false) (sym c.slot_at.ensures ∙ c.in_default.is)

pub kept_in-requires-clause-key : goal.kept_in-requires-clause-key
kept_in-requires-clause-key c =
    let lt : c.loop-place.place
    < length c.args.parts.now.components.items =
    (let t = c.loop-place-test.true in let e = c.len-place-end.ensures in let f = c.args.parts.now.components.ok.0 in omega
    (arith, t, e, f)) in
    let row = there_row c.args.parts.now.components.items c.loop-place.place lt in
    has_key c.args.log.now c.args.parts.now c.args.slots.now c.requires.sight c.loop-place.place row.0 row.1 c.in-Some.row
    (sym c.slot_at.ensures ∙ c.in-Some.is)

pub kept_in-requires-clause-answer : goal.kept_in-requires-clause-answer
kept_in-requires-clause-answer c =
    let lt : c.loop-place.place
    < length c.args.parts.now.components.items =
    (let t = c.loop-place-test.true in let e = c.len-place-end.ensures in let f = c.args.parts.now.components.ok.0 in omega
    (arith, t, e, f)) in
    let row = there_row c.args.parts.now.components.items c.loop-place.place lt in
    has_answer c.args.log.now c.args.parts.now c.args.slots.now c.requires.sight c.loop-place.place row.0 row.1 c.in-Some.row
    (sym c.slot_at.ensures ∙ c.in-Some.is)

pub loop-place-preserved-then-not-is_marked : goal.loop-place-preserved-then-not-is_marked
loop-place-preserved-then-not-is_marked c =
    c.loop-place.invariant ∙
    ap (λ l. map slot_solution (filter_map (settled_at (replay (events_of c.args.log.now))) l))
    (sym (filter_range_out (marked c.args.aim.now) c.loop-place.place (sym c.is_marked.ensures ∙ c.if-not-is_marked.true)))

pub loop-place-preserved : goal.loop-place-preserved
loop-place-preserved c =
    let lt : c.loop-place.place
    < length c.args.parts.now.components.items =
    (let t = c.loop-place-test.true in let e = c.len-place-end.ensures in let f = c.args.parts.now.components.ok.0 in omega
    (arith, t, e, f)) in
    let row = there_row c.args.parts.now.components.items c.loop-place.place lt in
    let reached = sym c.is_marked.ensures ∙ c.if-not-is_marked.false in
    let kept = c.in_ok-kept_in.field-0 in
    let own =
    kept_at c.args.log.now c.args.parts.now c.args.slots.now c.requires.sight c.loop-place.place row.0 row.1 c.args.aim.now
    c.requires.settled reached c.in-Some.row (sym c.slot_at.ensures ∙ c.in-Some.is) kept
    c.in_ok-kept_in.ensures.key c.in_ok-kept_in.ensures.answer in
    ap (map solution_of) c.in_ok-push.ensures.items ∙
    collected_more (replay (events_of c.args.log.now))
    (marked c.args.aim.now) c.loop-place.all.items kept c.loop-place.place own.0 reached own.1 own.2 c.loop-place.invariant

pub returns : goal.returns
returns c =
    let same = standings_count c.args.log.now c.args.parts.now c.args.slots.now c.requires.sight in
    let end : c.loop-place.place ≡ length c.args.parts.now.components.items =
    (let past = c.loop-place-test.false in
    let most = c.loop-place.auto.place-end in
    let e = c.len-place-end.ensures in
    let f = c.args.parts.now.components.ok.0 in
    omega (arith, past, most, e, f)) in
    c.loop-place.invariant ∙
    ap (λ n. map slot_solution
    (filter_map (settled_at (replay (events_of c.args.log.now))) (filter (marked c.args.aim.now) (range_with_len 0 n)))) (end ∙ sym same)
