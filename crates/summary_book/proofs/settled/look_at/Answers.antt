-- What is not settled is not marked.
use Rattle.std.proofs.Common.{◌≡◌, ◌∙◌, false, true, sym, ap, subst}
use Rattle.std.proofs.lemmas.List.{get_or-set_same}
use Rattle.call_components.specs.Reaching.{marked}
use Rattle.claim_core.specs.Told.{events_of}
use Rattle.claim_laws.specs.Logs.{replay, settled_at}
use Rattle.summary_book.specs.Settled.{IsExactAt}
use Rattle.summary_book.proofs.RowLengths.{within_marks}
use Rattle.summary_book.proofs.Events.{not_both}
use Rattle.summary_book.proofs.Search.{marked_still}
use Rattle.summary_book.proofs.Marks.{exact_below, exact_same, some_number}
use Rattle.summary_book.proofs.settled.look_at.Goals as goal

pub returns-else-is_some-clause-exact : goal.returns-else-is_some-clause-exact
returns-else-is_some-clause-exact c = λ are.
    let world = replay (events_of c.args.log.now) in
    let marks = c.args.marks.now.items in
    let unmarked : marked marks c.args.place ≡ false =
    ap (λ m. marked m c.args.place) (sym c.deref.ensures.value) ∙ sym c.is_marked.ensures ∙ c.if-is_marked.false in
    let exact =
    c.settling.ensures.exact
    (subst (λ m. IsExactAt world m c.args.place) (sym c.deref-2.ensures.value) (exact_below world marks c.args.place are)) in
    exact_same world marks c.args.place are
    (unmarked ∙ sym (some_number (settled_at world c.args.place) c.settling.result exact ∙ sym c.is_some.ensures ∙ c.if-is_some.false))

pub returns-then-is_marked-clause-found : goal.returns-then-is_marked-clause-found
returns-then-is_marked-clause-found c =
    λ exact settled. ap (λ m. marked m c.args.place) (sym c.deref.ensures.value) ∙ sym c.is_marked.ensures ∙ c.if-is_marked.true

pub returns-then-is_some-clause-stay : goal.returns-then-is_some-clause-stay
returns-then-is_some-clause-stay c = λ other mark.
    marked_still c.args.marks.now.items c.args.place other
    (within_marks c.args.log.now c.args.parts.now c.args.slots.now c.requires.sight c.args.marks.now.items c.args.place c.requires.marks
    c.requires.place) mark

pub returns-then-is_some-clause-found : goal.returns-then-is_some-clause-found
returns-then-is_some-clause-found c = λ exact settled.
    get_or-set_same c.args.marks.now.items c.args.place true false
    (within_marks c.args.log.now c.args.parts.now c.args.slots.now c.requires.sight c.args.marks.now.items c.args.place c.requires.marks
    c.requires.place)

pub returns-else-is_some-clause-found : goal.returns-else-is_some-clause-found
returns-else-is_some-clause-found c = λ exact settled.
    let world = replay (events_of c.args.log.now) in
    let is = c.settling.ensures.exact (subst (λ m. IsExactAt world m c.args.place) (sym c.deref-2.ensures.value) exact) in
    not_both settled (some_number (settled_at world c.args.place) c.settling.result is ∙ sym c.is_some.ensures ∙ c.if-is_some.false)
