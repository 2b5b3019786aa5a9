-- The first component with the names is the one of its members.
use Rattle.std.proofs.Common.{◌∙◌, length, slice_get, sym, ap, arith}
use Rattle.std.specs.List.{filter_map}
use Rattle.component_keys.specs.Keys.{flows_of, names_of}
use Rattle.summary_book.proofs.Events.{not_both}
use Rattle.summary_book.proofs.Rowed.{named_here, none_named, none_named_more, row_at}
use Rattle.summary_book.proofs.meeting.place_of.Goals as goal

pub returns-then-have_names-clause-place : goal.returns-then-have_names-clause-place
returns-then-have_names-clause-place c =
    let items = c.args.parts.now.components.items in
    let row = c.component-item.result in
    let at =
    row_at c.deref-component-items.result.now items c.loop-place.place row c.deref-component-items.ensures.value c.loop-place-test.true
    c.component-item.is in
    sym
    (named_here c.args.parts.now c.requires (names_of c.args.procs.now) c.loop-place.place row at
    (ap (λ p. names_of (filter_map (slice_get (flows_of p)) row.members.items)) (sym c.deref.ensures)
    ∙ ap (λ m. names_of (filter_map (slice_get (flows_of c.deref.result.now)) m)) (sym c.deref-in-loop-place.ensures.value) ∙
    c.have_names.ensures.0 c.if-have_names.true))

pub loop-place-preserved : goal.loop-place-preserved
loop-place-preserved c =
    let items = c.args.parts.now.components.items in
    let row = c.component-item.result in
    let at =
    row_at c.deref-component-items.result.now items c.loop-place.place row c.deref-component-items.ensures.value c.loop-place-test.true
    c.component-item.is in
    none_named_more c.args.parts.now c.requires (names_of c.args.procs.now) c.loop-place.place row at c.loop-place.invariant
    (λ e.
    not_both
    (c.have_names.ensures.1
    (ap (λ m. names_of (filter_map (slice_get (flows_of c.deref.result.now)) m)) c.deref-in-loop-place.ensures.value
    ∙ ap (λ p. names_of (filter_map (slice_get (flows_of p)) row.members.items)) c.deref.ensures ∙ e))
    c.if-have_names.false)

pub returns-clause-place : goal.returns-clause-place
returns-clause-place c =
    sym
    (none_named c.args.parts.now c.requires (names_of c.args.procs.now)
    (λ k part lt at same. c.loop-place.invariant k part
    (let past = c.loop-place-test.false in let e = ap length c.deref-component-items.ensures.value in omega (arith, past, lt, e)) at same))
