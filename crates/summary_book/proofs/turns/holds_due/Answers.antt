-- The row's bit and place, and the callees, tell whether its key is the due one.
use Rattle.std.proofs.Common.{◌<◌, All, length, sym, subst, refl, arith}
use Rattle.component_keys.specs.Tests.{key_test}
use Rattle.component_keys.proofs.Whole.{same_answers}
use Rattle.composed_keys.specs.declared.rows.Outer.{Outer as OuterRow}
use Rattle.summary_book.specs.Places.{key_at}
use Rattle.summary_book.specs.Settled.{HasKnown}
use Rattle.summary_book.proofs.Components.{components_small}
use Rattle.summary_book.proofs.Due.{holds_out, out_holds}
use Rattle.summary_book.proofs.Events.{not_both}
use Rattle.summary_book.proofs.Rowed.{row_at, there_row}
use Rattle.summary_book.proofs.turns.holds_due.Goals as goal

pub overflow_cast-here : goal.overflow_cast-here
overflow_cast-here c =
    let small = components_small c.args.parts.now c.requires.sight.parts_are in
    let lt = c.requires.place in
    omega (arith, small, lt)

pub returns-then-not-is_same : goal.returns-then-not-is_same
returns-then-not-is_same c = λ key claim due is.
    let row = there_row c.args.parts.now.components.items c.args.place c.requires.place in
    same_answers _ (key_test.0 claim.key key) (λ t. cc)
    (λ t.
    let has =
    holds_out c.args.log.now c.args.parts.now c.args.slots.now c.requires.sight c.args.place row.0 row.1 key c.args.row.now claim due is
    ((key_test.1 claim.key key).0 t) in
    not_both (c.is_same.ensures.1 has.0) c.if-not-is_same.true)

pub returns-then-not-row : goal.returns-then-not-row
returns-then-not-row c = λ key claim due is.
    let row = there_row c.args.parts.now.components.items c.args.place c.requires.place in
    same_answers _ (key_test.0 claim.key key) (λ t. cc)
    (λ t.
    let has =
    holds_out c.args.log.now c.args.parts.now c.args.slots.now c.requires.sight c.args.place row.0 row.1 key c.args.row.now claim due is
    ((key_test.1 claim.key key).0 t) in
    not_both has.1 c.if-not-row.true)

pub has_known-requires : goal.has_known-requires
has_known-requires c =
    let items = c.args.parts.now.components.items in
    let at = row_at items items c.args.place c.index-component.result.now refl c.requires.place c.index-component.ensures in
    subst (All (λ (one : OuterRow). one.number < length c.args.parts.now.program.value.procs)) (sym c.deref.ensures.value)
    (c.requires.sight.parts_are.within c.args.place c.index-component.result.now at).outer

pub returns : goal.returns
returns c = λ key claim due is.
    let items = c.args.parts.now.components.items in
    let row = c.index-component.result.now in
    let at = row_at items items c.args.place row refl c.requires.place c.index-component.ensures in
    same_answers c.has_known.result (key_test.0 claim.key key)
    (λ t.
    (key_test.1 claim.key key).1
    (out_holds c.args.log.now c.args.parts.now c.args.slots.now c.requires.sight c.args.place row at key c.args.row.now claim due is
    (c.is_same.ensures.0 c.if-not-is_same.false) c.if-not-row.false
    (subst (λ o. HasKnown c.args.parts.now.program.value c.args.log.now c.args.slots.now o
    (key_at c.args.log.now c.args.row.now.claimed)) c.deref.ensures.value (c.has_known.ensures.0 t))))
    (λ t.
    let has =
    holds_out c.args.log.now c.args.parts.now c.args.slots.now c.requires.sight c.args.place row at key c.args.row.now claim due is
    ((key_test.1 claim.key key).0 t) in
    c.has_known.ensures.1
    (subst (λ o. HasKnown c.args.parts.now.program.value c.args.log.now c.args.slots.now o (key_at c.args.log.now c.args.row.now.claimed))
    (sym c.deref.ensures.value) has.2))
