-- A component's turn by the marks of whom it calls, its slot and the outstanding claims.
use Rattle.std.proofs.Common.{◌≡◌, ◌∙◌, false, true, sym, ap, Some, slice_get}
use Rattle.std.specs.List.{list_all}
use Rattle.std.proofs.lemmas.Option.{slice_get-get_or}
use Rattle.call_components.specs.Reaching.{marked}
use Rattle.composed_keys.specs.declared.rows.Outer.{Outer as OuterRow}
use Rattle.claim_core.specs.Told.{events_of}
use Rattle.claim_laws.specs.Logs.{replay, settled_at}
use Rattle.summary_book.proofs.Due.{all_settled, blocked}
use Rattle.summary_book.proofs.OutstandingRows.{due_at, none_from, some_from, turn_free, turn_out}
use Rattle.summary_book.proofs.turns.turn_of.Goals as goal

pub returns-then-not-are_marked : goal.returns-then-not-are_marked
returns-then-not-are_marked c =
    let items = c.args.parts.now.components.items in
    let row = c.index-component.result.now in
    let at : slice_get items c.args.place ≡ Some row =
    slice_get-get_or items c.args.place row c.requires.place ∙ ap (λ r. Some r) (sym c.index-component.ensures) in
    let not : list_all (λ (one : OuterRow). marked c.args.marks.now one.component) row.outer.items ≡ false =
    ap (list_all (λ (one : OuterRow). marked c.args.marks.now one.component)) (sym c.deref.ensures.value) ∙ sym c.are_marked.ensures
    ∙ c.if-not-are_marked.true in
    blocked c.args.log.now c.args.parts.now c.args.slots.now c.requires.sight c.args.place row at c.args.marks.now c.requires.exact not

pub returns-then-is_some : goal.returns-then-is_some
returns-then-is_some c =
    some_from (settled_at (replay (events_of c.args.log.now)) c.args.place) c.settling.result c.settling.ensures.sound
    (sym c.is_some.ensures ∙ c.if-is_some.true)

pub returns-in-Some : goal.returns-in-Some
returns-in-Some c =
    let items = c.args.parts.now.components.items in
    let row = c.index-component.result.now in
    let at : slice_get items c.args.place ≡ Some row =
    slice_get-get_or items c.args.place row c.requires.place ∙ ap (λ r. Some r) (sym c.index-component.ensures) in
    let all : list_all (λ (one : OuterRow). marked c.args.marks.now one.component) row.outer.items ≡ true =
    ap (list_all (λ (one : OuterRow). marked c.args.marks.now one.component)) (sym c.deref.ensures.value) ∙ sym c.are_marked.ensures
    ∙ c.if-not-are_marked.false in
    let due = due_at c.args.log.now c.args.parts.now c.args.slots.now c.requires.sight c.args.place row at
    (all_settled c.args.log.now c.args.parts.now c.args.slots.now c.requires.sight c.args.place row at c.args.marks.now c.requires.marks
    all) in
    let none =
    none_from (settled_at (replay (events_of c.args.log.now)) c.args.place) c.settling.result (c.settling.ensures.exact c.requires.exact)
    (sym c.is_some.ensures ∙ c.if-is_some.false) in
    turn_out c.args.log.now c.args.parts.now c.args.slots.now c.requires.sight c.args.place row at due.0 due.1 none c.in-Some.number
    (sym c.in-Some.is ∙ c.holder.ensures due.0 due.1)

pub returns-in-None : goal.returns-in-None
returns-in-None c =
    let items = c.args.parts.now.components.items in
    let row = c.index-component.result.now in
    let at : slice_get items c.args.place ≡ Some row =
    slice_get-get_or items c.args.place row c.requires.place ∙ ap (λ r. Some r) (sym c.index-component.ensures) in
    let all : list_all (λ (one : OuterRow). marked c.args.marks.now one.component) row.outer.items ≡ true =
    ap (list_all (λ (one : OuterRow). marked c.args.marks.now one.component)) (sym c.deref.ensures.value) ∙ sym c.are_marked.ensures
    ∙ c.if-not-are_marked.false in
    let due = due_at c.args.log.now c.args.parts.now c.args.slots.now c.requires.sight c.args.place row at
    (all_settled c.args.log.now c.args.parts.now c.args.slots.now c.requires.sight c.args.place row at c.args.marks.now c.requires.marks
    all) in
    let none =
    none_from (settled_at (replay (events_of c.args.log.now)) c.args.place) c.settling.result (c.settling.ensures.exact c.requires.exact)
    (sym c.is_some.ensures ∙ c.if-is_some.false) in (
      due.0,
      turn_free c.args.log.now c.args.parts.now c.args.slots.now c.requires.sight c.args.place row at due.0 due.1 none
          (sym c.in-None.is ∙ c.holder.ensures due.0 due.1),
    )
