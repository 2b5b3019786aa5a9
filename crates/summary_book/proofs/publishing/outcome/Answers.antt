-- The cases in their order.
use Rattle.std.proofs.Common.{◌≡◌, ◌<◌, ◌∙◌, IfSome, All, length, slice_get, false, true, sym, ap, subst, refl}
use Rattle.std.specs.List.{filter_map}
use Rattle.component_keys.specs.Keys.{flows_of}
use Rattle.component_keys.specs.Tests.{flows_test}
use Rattle.claim_core.specs.Told.{events_of}
use Rattle.claim_laws.specs.Logs.{replay}
use Rattle.claim_laws.specs.declared.published.Published.TheVariants.{Stale}
use Rattle.claim_laws.specs.declared.published.Seen.TheVariants.{Gone, Changed}
use Rattle.summary_book.specs.Moved.{outcome_by_row}
use Rattle.summary_book.specs.Settled.{IsExactAt}
use Rattle.component_keys.proofs.Basics.{not_none}
use Rattle.summary_book.proofs.Marks.{exact_below, exact_here}
use Rattle.summary_book.proofs.Outcomes.{outcome_gone, outcome_otherwise, outcome_where_due, outcome_where_settled}
use Rattle.summary_book.proofs.Rowed.{row_at, there_row}
use Rattle.summary_book.proofs.publishing.outcome.Goals as goal

pub returns-in_default-clause-outcome : goal.returns-in_default-clause-outcome
returns-in_default-clause-outcome c = λ claim is.
    ap (λ r. Stale (Gone r)) c.requires.revision
    ∙ sym (outcome_gone c.args.log.now c.args.parts.now c.args.slots.now c.requires.sight c.args.row.now claim is c.in_default.is)

pub returns-in-Some-settling-clause-outcome : goal.returns-in-Some-settling-clause-outcome
returns-in-Some-settling-clause-outcome c = λ claim is.
    let items = c.args.parts.now.components.items in
    let lt : c.in-Some.here < length items = subst (λ o. IfSome o (λ here. here < length items)) c.in-Some.is c.requires.place in
    let row = there_row items c.in-Some.here lt in
    sym (outcome_where_settled c.args.log.now c.args.parts.now c.args.slots.now c.requires.sight c.in-Some.here row.0 row.1 c.args.row.now
    claim is c.in-Some.is c.in-Some-settling.claim c.in-Some-settling.ensures.sound)

pub is_due-requires-clause-exact : goal.is_due-requires-clause-exact
is_due-requires-clause-exact c =
    let world = replay (events_of c.args.log.now) in
    subst (λ m. IsExactAt world m c.in-Some.here) (sym c.deref-2.ensures.value)
    (exact_below world c.mark_settled.new.marks.items c.in-Some.here c.mark_settled.ensures.exact)

pub returns-then-is_due-clause-outcome : goal.returns-then-is_due-clause-outcome
returns-then-is_due-clause-outcome c = λ claim is.
    let world = replay (events_of c.args.log.now) in
    let items = c.args.parts.now.components.items in
    let lt : c.in-Some.here < length items = subst (λ o. IfSome o (λ here. here < length items)) c.in-Some.is c.requires.place in
    let row = there_row items c.in-Some.here lt in
    let exact =
    c.settling.ensures.exact
    (subst (λ m. IsExactAt world m c.in-Some.here) (sym c.deref.ensures.value)
    (exact_below world c.mark_settled.new.marks.items c.in-Some.here c.mark_settled.ensures.exact)) in
    let none = sym (sym c.in_default-settling.is ∙ exact) in
    sym
    (outcome_where_due c.args.log.now c.args.parts.now c.args.slots.now c.requires.sight c.in-Some.here row.0 row.1 c.args.row.now claim is
    c.in-Some.is none (sym (c.is_due.ensures claim is) ∙ c.if-is_due.true))

pub has_flows-requires : goal.has_flows-requires
has_flows-requires c =
    let items = c.args.parts.now.components.items in
    let lt : c.in-Some.here < length items = subst (λ o. IfSome o (λ here. here < length items)) c.in-Some.is c.requires.place in
    let row = c.index-component.result.now in
    let at = row_at items items c.in-Some.here row refl lt c.index-component.ensures in
    let members = (c.requires.sight.parts_are.within c.in-Some.here row at).members in
    subst (λ p. All (λ number. number < length p.procs) c.deref-4.result.now) (sym c.deref-3.ensures)
    (subst (All (λ number. number < length c.args.parts.now.program.value.procs)) (sym c.deref-4.ensures.value) members)

pub returns-then-not-has_flows-clause-outcome : goal.returns-then-not-has_flows-clause-outcome
returns-then-not-has_flows-clause-outcome c = λ claim is.
    let world = replay (events_of c.args.log.now) in
    let items = c.args.parts.now.components.items in
    let lt : c.in-Some.here < length items = subst (λ o. IfSome o (λ here. here < length items)) c.in-Some.is c.requires.place in
    let row = c.index-component.result.now in
    let at = row_at items items c.in-Some.here row refl lt c.index-component.ensures in
    let exact =
    c.settling.ensures.exact
    (subst (λ m. IsExactAt world m c.in-Some.here) (sym c.deref.ensures.value)
    (exact_below world c.mark_settled.new.marks.items c.in-Some.here c.mark_settled.ensures.exact)) in
    let none = sym (sym c.in_default-settling.is ∙ exact) in
    let flows : flows_test.0 claim.key.procs (filter_map (slice_get (flows_of c.args.parts.now.program.value)) row.members.items) ≡ false =
    ap (λ m. flows_test.0 claim.key.procs (filter_map (slice_get (flows_of c.args.parts.now.program.value)) m))
    (sym c.deref-4.ensures.value) ∙
    ap (λ p. flows_test.0 claim.key.procs (filter_map (slice_get (flows_of p)) c.deref-4.result.now)) (sym c.deref-3.ensures)
    ∙ sym (c.has_flows.ensures claim.key is.key_is) ∙ c.if-not-has_flows.true in
    ap (λ r. Stale (Changed r)) c.requires.revision ∙
    sym
    (outcome_otherwise c.args.log.now c.args.parts.now c.args.slots.now c.requires.sight c.in-Some.here row at c.args.row.now claim is
    c.in-Some.is false none
    (sym (c.is_due.ensures claim is) ∙ c.if-is_due.false) flows)

pub returns-clause-outcome : goal.returns-clause-outcome
returns-clause-outcome c = λ claim is.
    let world = replay (events_of c.args.log.now) in
    let items = c.args.parts.now.components.items in
    let lt : c.in-Some.here < length items = subst (λ o. IfSome o (λ here. here < length items)) c.in-Some.is c.requires.place in
    let row = c.index-component.result.now in
    let at = row_at items items c.in-Some.here row refl lt c.index-component.ensures in
    let exact =
    c.settling.ensures.exact
    (subst (λ m. IsExactAt world m c.in-Some.here) (sym c.deref.ensures.value)
    (exact_below world c.mark_settled.new.marks.items c.in-Some.here c.mark_settled.ensures.exact)) in
    let none = sym (sym c.in_default-settling.is ∙ exact) in
    let flows : flows_test.0 claim.key.procs (filter_map (slice_get (flows_of c.args.parts.now.program.value)) row.members.items) ≡ true =
    ap (λ m. flows_test.0 claim.key.procs (filter_map (slice_get (flows_of c.args.parts.now.program.value)) m))
    (sym c.deref-4.ensures.value) ∙
    ap (λ p. flows_test.0 claim.key.procs (filter_map (slice_get (flows_of p)) c.deref-4.result.now)) (sym c.deref-3.ensures)
    ∙ sym (c.has_flows.ensures claim.key is.key_is) ∙ c.if-not-has_flows.false in
    c.outcome_by_slot.ensures ∙ ap (λ o. outcome_by_row o c.args.row.now.number) c.slot_at.ensures ∙
    sym
    (outcome_otherwise c.args.log.now c.args.parts.now c.args.slots.now c.requires.sight c.in-Some.here row at c.args.row.now claim is
    c.in-Some.is true none
    (sym (c.is_due.ensures claim is) ∙ c.if-is_due.false) flows)

pub returns-in-Some-settling-clause-exact : goal.returns-in-Some-settling-clause-exact
returns-in-Some-settling-clause-exact c =
    exact_here (replay
    (events_of c.args.log.now)) c.mark_settled.new.marks.items c.args.row.now.here c.in-Some.here c.in-Some.is c.mark_settled.ensures.exact

pub returns-then-is_due-clause-exact : goal.returns-then-is_due-clause-exact
returns-then-is_due-clause-exact c =
    exact_here (replay
    (events_of c.args.log.now)) c.mark_settled.new.marks.items c.args.row.now.here c.in-Some.here c.in-Some.is c.mark_settled.ensures.exact

pub returns-then-not-has_flows-clause-exact : goal.returns-then-not-has_flows-clause-exact
returns-then-not-has_flows-clause-exact c =
    exact_here (replay
    (events_of c.args.log.now)) c.mark_settled.new.marks.items c.args.row.now.here c.in-Some.here c.in-Some.is c.mark_settled.ensures.exact

pub returns-clause-exact : goal.returns-clause-exact
returns-clause-exact c =
    exact_here (replay
    (events_of c.args.log.now)) c.mark_settled.new.marks.items c.args.row.now.here c.in-Some.here c.in-Some.is c.mark_settled.ensures.exact

pub returns-in_default-clause-exact : goal.returns-in_default-clause-exact
returns-in_default-clause-exact c = λ place is. not_none (sym c.in_default.is ∙ is)
