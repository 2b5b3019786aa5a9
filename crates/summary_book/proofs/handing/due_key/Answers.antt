-- The key over what the slots of the callees have is the due one.
use Rattle.std.proofs.Common.{◌≡◌, ◌<◌, ◌∙◌, All, IsSome, length, map, sym, ap, subst, Some, None, slice_get, slice_index_or, refl}
use Rattle.std.specs.List.{filter_map}
use Rattle.std.proofs.lemmas.Result.{IfOk-weaker}
use Rattle.shape_data.specs.declared.answer.Callee.{Callee}
use Rattle.component_keys.specs.Keys.{flows_of, key_over}
use Rattle.composed_keys.specs.declared.rows.Outer.{Outer as OuterRow}
use Rattle.summary_book.specs.Rows.{known_row, row_answer}
use Rattle.summary_book.proofs.Due.{all_answered, composed_due}
use Rattle.summary_book.proofs.Rowed.{row_at}
use Rattle.summary_book.proofs.handing.due_key.Goals as goal

pub known_callees-requires-clause-answered : goal.known_callees-requires-clause-answered
known_callees-requires-clause-answered c =
    let items = c.args.parts.now.components.items in
    let row = c.index-component.result.now in
    let at = row_at items items c.args.place row refl c.requires.place c.index-component.ensures in
    subst (All (λ (one : OuterRow). IsSome (row_answer c.args.log.now (slice_index_or c.args.slots.now one.component None))))
    (sym c.deref-2.ensures.value)
    (all_answered c.args.log.now c.args.parts.now c.args.slots.now c.requires.sight c.args.place row at c.requires.due.0 c.requires.due.1)

pub key_of-requires-clause-members : goal.key_of-requires-clause-members
key_of-requires-clause-members c =
    let items = c.args.parts.now.components.items in
    let row = c.index-component.result.now in
    let at = row_at items items c.args.place row refl c.requires.place c.index-component.ensures in
    let members = (c.requires.sight.parts_are.within c.args.place row at).members in
    subst (λ p. All (λ number. number < length p.procs) c.deref-4.result.now) (sym c.deref-3.ensures)
    (subst (All (λ number. number < length c.args.parts.now.program.value.procs)) (sym c.deref-4.ensures.value) members)

pub returns : goal.returns
returns c =
    let items = c.args.parts.now.components.items in
    let row = c.index-component.result.now in
    let at = row_at items items c.args.place row refl c.requires.place c.index-component.ensures in
    let program = c.args.parts.now.program.value in
    let callees = c.in_ok-callees.callees in
    let known : map (known_row program c.args.log.now c.args.slots.now) row.outer.items ≡ map (λ (callee : Callee). Some callee) callees =
    ap (λ p. map (known_row p c.args.log.now c.args.slots.now) row.outer.items) (sym c.deref.ensures)
    ∙ ap (map (known_row c.deref.result.now c.args.log.now c.args.slots.now)) (sym c.deref-2.ensures.value) ∙
    c.in_ok-callees.ensures in
    IfOk-weaker c.key_of.result _ _
    (λ key is.
    composed_due c.args.log.now c.args.parts.now c.args.slots.now c.requires.sight c.args.place row at c.requires.due.0 key callees
    c.requires.due.1 known
    (is ∙ ap (λ p. key_over p.structs (filter_map (slice_get (flows_of p)) c.deref-4.result.now) callees) c.deref-3.ensures ∙
    ap (λ m. key_over program.structs (filter_map (slice_get (flows_of program)) m) callees) c.deref-4.ensures.value)) c.key_of.ensures
