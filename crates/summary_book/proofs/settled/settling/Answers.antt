-- Settled or not by the row of the slot, where all that the component calls are settled.
use Rattle.std.proofs.Common.{◌≡◌, ◌<◌, ◌∙◌, false, true, All, length, sym, ap, subst, Some, slice_get, option_map}
use Rattle.std.specs.List.{list_all}
use Rattle.std.proofs.lemmas.Option.{slice_get-get_or}
use Rattle.call_components.specs.Reaching.{marked}
use Rattle.composed_keys.specs.declared.rows.Outer.{Outer as OuterRow}
use Rattle.claim_core.specs.Told.{events_of}
use Rattle.claim_laws.specs.Logs.{replay}
use Rattle.claim_laws.specs.World.{Slot}
use Rattle.summary_book.proofs.Due.{all_settled, blocked, settled_kept, settled_other, unsettled_empty}
use Rattle.summary_book.specs.Places.{key_at}
use Rattle.summary_book.specs.Settled.{HasKnown}
use Rattle.summary_book.proofs.Events.{not_both}
use Rattle.component_keys.proofs.Basics.{not_true}
use Rattle.summary_book.proofs.Standings.{settled_of}
use Rattle.summary_book.proofs.OutstandingRows.{not_false}
use Rattle.summary_book.proofs.settled.settling.Goals as goal

pub returns-then-not-are_marked-clause-exact : goal.returns-then-not-are_marked-clause-exact
returns-then-not-are_marked-clause-exact c = λ exact.
    let items = c.args.parts.now.components.items in
    let row = c.index-component.result.now in
    let at : slice_get items c.args.place ≡ Some row =
    slice_get-get_or items c.args.place row c.requires.place ∙ ap (λ r. Some r) (sym c.index-component.ensures) in
    let not : list_all (λ (one : OuterRow). marked c.args.marks.now one.component) row.outer.items ≡ false =
    ap (list_all (λ (one : OuterRow). marked c.args.marks.now one.component)) (sym c.deref.ensures.value) ∙ sym c.are_marked.ensures
    ∙ c.if-not-are_marked.true in
    let b = blocked c.args.log.now c.args.parts.now c.args.slots.now c.requires.sight c.args.place row at c.args.marks.now exact not in
    sym (ap (option_map (λ (slot : Slot). slot.claim))
    (settled_of (replay (events_of c.args.log.now)) c.args.place b.standing b.at ∙ b.settled))

pub returns-in_default-clause-exact : goal.returns-in_default-clause-exact
returns-in_default-clause-exact c = λ exact.
    let items = c.args.parts.now.components.items in
    let row = c.index-component.result.now in
    let at : slice_get items c.args.place ≡ Some row =
    slice_get-get_or items c.args.place row c.requires.place ∙ ap (λ r. Some r) (sym c.index-component.ensures) in
    sym (ap (option_map (λ (slot : Slot). slot.claim))
    (unsettled_empty c.args.log.now c.args.parts.now c.args.slots.now c.requires.sight c.args.place row at
    (sym c.slot_at.ensures ∙ c.in_default.is)))

pub has_known-requires : goal.has_known-requires
has_known-requires c =
    let items = c.args.parts.now.components.items in
    let row = c.index-component.result.now in
    let at : slice_get items c.args.place ≡ Some row =
    slice_get-get_or items c.args.place row c.requires.place ∙ ap (λ r. Some r) (sym c.index-component.ensures) in
    subst (All (λ (one : OuterRow). one.number < length c.args.parts.now.program.value.procs)) (sym c.deref-2.ensures.value)
    (c.requires.sight.parts_are.within c.args.place row at).outer

pub returns-then-not-row-clause-exact : goal.returns-then-not-row-clause-exact
returns-then-not-row-clause-exact c = λ exact.
    let items = c.args.parts.now.components.items in
    let row = c.index-component.result.now in
    let at : slice_get items c.args.place ≡ Some row =
    slice_get-get_or items c.args.place row c.requires.place ∙ ap (λ r. Some r) (sym c.index-component.ensures) in
    let all : list_all (λ (one : OuterRow). marked c.args.marks.now one.component) row.outer.items ≡ true =
    ap (list_all (λ (one : OuterRow). marked c.args.marks.now one.component)) (sym c.deref.ensures.value) ∙ sym c.are_marked.ensures
    ∙ c.if-not-are_marked.false in
    let settled =
    all_settled c.args.log.now c.args.parts.now c.args.slots.now c.requires.sight c.args.place row at c.args.marks.now c.requires.marks
    all in
    sym
    (settled_other c.args.log.now c.args.parts.now c.args.slots.now c.requires.sight c.args.place row at settled c.in-Some.row
    (sym c.slot_at.ensures ∙ c.in-Some.is) (λ fits has. not_both fits (not_true c.in-Some.row.fits c.if-not-row.true)))

pub returns-then-has_known-clause-sound : goal.returns-then-has_known-clause-sound
returns-then-has_known-clause-sound c =
    let items = c.args.parts.now.components.items in
    let row = c.index-component.result.now in
    let at : slice_get items c.args.place ≡ Some row =
    slice_get-get_or items c.args.place row c.requires.place ∙ ap (λ r. Some r) (sym c.index-component.ensures) in
    let all : list_all (λ (one : OuterRow). marked c.args.marks.now one.component) row.outer.items ≡ true =
    ap (list_all (λ (one : OuterRow). marked c.args.marks.now one.component)) (sym c.deref.ensures.value) ∙ sym c.are_marked.ensures
    ∙ c.if-not-are_marked.false in
    let settled =
    all_settled c.args.log.now c.args.parts.now c.args.slots.now c.requires.sight c.args.place row at c.args.marks.now c.requires.marks
    all in
    settled_kept c.args.log.now c.args.parts.now c.args.slots.now c.requires.sight c.args.place row at settled c.in-Some.row
    (sym c.slot_at.ensures ∙ c.in-Some.is) (not_false c.in-Some.row.fits c.if-not-row.false)
    (subst (λ o. HasKnown c.args.parts.now.program.value c.args.log.now c.args.slots.now o
    (key_at c.args.log.now c.in-Some.row.claimed)) c.deref-2.ensures.value (c.has_known.ensures.0 c.if-has_known.true))

pub returns-then-has_known-clause-exact : goal.returns-then-has_known-clause-exact
returns-then-has_known-clause-exact c = λ exact.
    let items = c.args.parts.now.components.items in
    let row = c.index-component.result.now in
    let at : slice_get items c.args.place ≡ Some row =
    slice_get-get_or items c.args.place row c.requires.place ∙ ap (λ r. Some r) (sym c.index-component.ensures) in
    let all : list_all (λ (one : OuterRow). marked c.args.marks.now one.component) row.outer.items ≡ true =
    ap (list_all (λ (one : OuterRow). marked c.args.marks.now one.component)) (sym c.deref.ensures.value) ∙ sym c.are_marked.ensures
    ∙ c.if-not-are_marked.false in
    let settled =
    all_settled c.args.log.now c.args.parts.now c.args.slots.now c.requires.sight c.args.place row at c.args.marks.now c.requires.marks
    all in
    sym
    (settled_kept c.args.log.now c.args.parts.now c.args.slots.now c.requires.sight c.args.place row at settled c.in-Some.row
    (sym c.slot_at.ensures ∙ c.in-Some.is) (not_false c.in-Some.row.fits c.if-not-row.false)
    (subst (λ o. HasKnown c.args.parts.now.program.value c.args.log.now c.args.slots.now o
    (key_at c.args.log.now c.in-Some.row.claimed)) c.deref-2.ensures.value (c.has_known.ensures.0 c.if-has_known.true)))

pub returns-clause-exact : goal.returns-clause-exact
returns-clause-exact c = λ exact.
    let items = c.args.parts.now.components.items in
    let row = c.index-component.result.now in
    let at : slice_get items c.args.place ≡ Some row =
    slice_get-get_or items c.args.place row c.requires.place ∙ ap (λ r. Some r) (sym c.index-component.ensures) in
    let all : list_all (λ (one : OuterRow). marked c.args.marks.now one.component) row.outer.items ≡ true =
    ap (list_all (λ (one : OuterRow). marked c.args.marks.now one.component)) (sym c.deref.ensures.value) ∙ sym c.are_marked.ensures
    ∙ c.if-not-are_marked.false in
    let settled =
    all_settled c.args.log.now c.args.parts.now c.args.slots.now c.requires.sight c.args.place row at c.args.marks.now c.requires.marks
    all in
    sym
    (settled_other c.args.log.now c.args.parts.now c.args.slots.now c.requires.sight c.args.place row at settled c.in-Some.row
    (sym c.slot_at.ensures ∙ c.in-Some.is)
    (λ fits has.
    not_both (c.has_known.ensures.1
    (subst (λ o. HasKnown c.args.parts.now.program.value c.args.log.now c.args.slots.now o (key_at c.args.log.now c.in-Some.row.claimed))
    (sym c.deref-2.ensures.value) has))
    c.if-has_known.false))
