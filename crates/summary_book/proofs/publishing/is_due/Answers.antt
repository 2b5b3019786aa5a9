-- Blocked, it is due nothing; else its due key is compared.
use Rattle.std.proofs.Common.{◌≡◌, ◌∙◌, false, true, sym, ap, refl}
use Rattle.std.specs.List.{list_all}
use Rattle.call_components.specs.Reaching.{marked}
use Rattle.composed_keys.specs.declared.rows.Outer.{Outer as OuterRow}
use Rattle.claim_laws.specs.World.{is_due}
use Rattle.summary_book.specs.Settled.{due_in}
use Rattle.summary_book.proofs.Due.{all_settled, blocked}
use Rattle.summary_book.proofs.OutstandingRows.{due_at, same_keys}
use Rattle.summary_book.proofs.Rowed.{row_at}
use Rattle.summary_book.proofs.publishing.is_due.Goals as goal

pub returns-then-not-are_marked : goal.returns-then-not-are_marked
returns-then-not-are_marked c = λ claim is.
    let items = c.args.parts.now.components.items in
    let row = c.index-component.result.now in
    let at = row_at items items c.args.place row refl c.requires.place c.index-component.ensures in
    let not : list_all (λ (one : OuterRow). marked c.args.marks.now one.component) row.outer.items ≡ false =
    ap (list_all (λ (one : OuterRow). marked c.args.marks.now one.component)) (sym c.deref.ensures.value) ∙ sym c.are_marked.ensures
    ∙ c.if-not-are_marked.true in
    let b =
    blocked c.args.log.now c.args.parts.now c.args.slots.now c.requires.sight c.args.place row at c.args.marks.now c.requires.exact not in
    sym (ap (λ o. is_due (due_in o) claim.key) b.at ∙ ap (λ d. is_due d claim.key) b.due)

pub returns : goal.returns
returns c = λ claim is.
    let items = c.args.parts.now.components.items in
    let row = c.index-component.result.now in
    let at = row_at items items c.args.place row refl c.requires.place c.index-component.ensures in
    let all : list_all (λ (one : OuterRow). marked c.args.marks.now one.component) row.outer.items ≡ true =
    ap (list_all (λ (one : OuterRow). marked c.args.marks.now one.component)) (sym c.deref.ensures.value) ∙ sym c.are_marked.ensures
    ∙ c.if-not-are_marked.false in
    let due = due_at c.args.log.now c.args.parts.now c.args.slots.now c.requires.sight c.args.place row at
    (all_settled c.args.log.now c.args.parts.now c.args.slots.now c.requires.sight c.args.place row at c.args.marks.now c.requires.marks
    all) in
    c.holds_due.ensures due.0 claim due.1 is ∙ same_keys claim.key due.0
    ∙ sym (ap (λ o. is_due (due_in o) claim.key) due.1.at ∙ ap (λ d. is_due d claim.key) due.1.due)
