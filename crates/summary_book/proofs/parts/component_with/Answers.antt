-- The first component with a procedure of the name is the one.
use Rattle.std.proofs.Common.{◌∙◌, length, slice_get, sym, ap, arith}
use Rattle.std.specs.List.{filter_map}
use Rattle.component_keys.specs.Keys.{flows_of}
use Rattle.summary_book.specs.Aims.{has_name}
use Rattle.summary_book.proofs.Components.{components_small}
use Rattle.summary_book.proofs.Rowed.{has_here, none_has, none_has_more, row_at}
use Rattle.summary_book.proofs.parts.component_with.Goals as goal

pub overflow_cast-result : goal.overflow_cast-result
overflow_cast-result c =
    let small = components_small c.args.parts.now c.requires in
    let lt = c.loop-place-test.true in
    let e = ap length c.deref-component-items.ensures.value in
    omega (arith, small, lt, e)

pub returns-then-has_name-clause-number : goal.returns-then-has_name-clause-number
returns-then-has_name-clause-number c =
    let items = c.args.parts.now.components.items in
    let row = c.component-item.result in
    let at =
    row_at c.deref-component-items.result.now items c.loop-place.place row c.deref-component-items.ensures.value c.loop-place-test.true
    c.component-item.is in
    sym
    (has_here c.args.parts.now c.requires c.args.name.now c.loop-place.place row at c.loop-place.invariant
    (ap (λ p. has_name c.args.name.now (filter_map (slice_get (flows_of p)) row.members.items)) (sym c.deref.ensures)
    ∙ ap (λ m. has_name c.args.name.now (filter_map (slice_get (flows_of c.deref.result.now)) m)) (sym c.deref-in-loop-place.ensures.value)
    ∙
    sym c.has_name.ensures ∙ c.if-has_name.true))

pub loop-place-preserved : goal.loop-place-preserved
loop-place-preserved c =
    let items = c.args.parts.now.components.items in
    let row = c.component-item.result in
    let at =
    row_at c.deref-component-items.result.now items c.loop-place.place row c.deref-component-items.ensures.value c.loop-place-test.true
    c.component-item.is in
    none_has_more c.args.parts.now c.requires c.args.name.now c.loop-place.place row at c.loop-place.invariant
    (ap (λ p. has_name c.args.name.now (filter_map (slice_get (flows_of p)) row.members.items)) (sym c.deref.ensures)
    ∙ ap (λ m. has_name c.args.name.now (filter_map (slice_get (flows_of c.deref.result.now)) m)) (sym c.deref-in-loop-place.ensures.value)
    ∙
    sym c.has_name.ensures ∙ c.if-has_name.false)

pub returns-clause-number : goal.returns-clause-number
returns-clause-number c =
    sym
    (none_has c.args.parts.now c.requires c.args.name.now
    (λ k part lt at. c.loop-place.invariant k part
    (let past = c.loop-place-test.false in let e = ap length c.deref-component-items.ensures.value in omega (arith, past, lt, e)) at))
