-- The key of a component over the table is its key over all that is known, and is within the limits of a store.
use Rattle.std.proofs.Common.{◌≡◌, ◌+◌, ◌∙◌, List, Some, refl, slice_get, sym, ap, subst, true}
use Rattle.shape_data.specs.declared.answer.Kept.{Kept}
use Rattle.std.specs.declared.option.Option.{Option}
use Rattle.shape_data.specs.WellFormed.{IsStorableKey}
use Rattle.call_components.specs.Reaching.{marked}
use Rattle.component_keys.specs.Keys.{Component, flows_of, program_components}
use Rattle.composed_keys.specs.Rows.{component_value}
use Rattle.loaded_answers.specs.Lookup.{lookup}
use Rattle.comp_solve.specs.Job.Solves.{solve}
use Rattle.bottom_up.specs.BottomUp.{answered, known_by}
use Rattle.summary_book.proofs.Rowed.{row_at}
use Rattle.session_replies.specs.PlainAnswers.Table.{IsTable, answer_at, key_by}
use Rattle.session_replies.proofs.PlainAnswersLemmas.Storing.{key_fits}
use Rattle.session_replies.proofs.PlainAnswersLemmas.Tabled.{key_is, none_more, one_more, part_at}
use Rattle.session_replies.proofs.plain_answers.answers.table_of.Goals as goal

pub key_in-requires-clause-members : goal.key_in-requires-clause-members
key_in-requires-clause-members g c =
    (c.requires.rows.within c.loop-place.place c.index-components-place.result
    (row_at c.args.components.now c.args.components.now c.loop-place.place c.index-components-place.result refl c.loop-place-test.true
    c.index-components-place.is)).members

pub key_in-requires-clause-outer : goal.key_in-requires-clause-outer
key_in-requires-clause-outer g c =
    (c.requires.rows.within c.loop-place.place c.index-components-place.result
    (row_at c.args.components.now c.args.components.now c.loop-place.place c.index-components-place.result refl c.loop-place-test.true
    c.index-components-place.is)).outer

pub entry_for-requires : goal.entry_for-requires
entry_for-requires g c =
    let program = c.args.program.now in
    let loaded = c.args.loaded.now in
    let place = c.loop-place.place in
    let part : Component = component_value (flows_of program) c.index-components-place.result in
    let at : slice_get (program_components program) place ≡ Some part =
    part_at program c.args.components.now c.requires.rows place c.index-components-place.result
    (row_at c.args.components.now c.args.components.now place c.index-components-place.result refl c.loop-place-test.true
    c.index-components-place.is) in
    subst IsStorableKey
    (sym
    (c.in_ok-key.ensures ∙ ap (λ (l : List (Option Kept)). key_by program.structs (answer_at l) part) c.deref-in-loop-place.ensures.value ∙
    key_is (lookup solve loaded) program (marked c.args.marks.now) c.requires.closed place part c.loop-place.table.items at
    c.loop-place.invariant
    (sym c.is_marked.ensures ∙ c.if-not-is_marked.false)))
    (key_fits loaded program
    (c.known_is_storable.ensures loaded c.requires.loaded program c.requires.formed c.requires.sizes) place part at)

pub loop-place-preserved-then-not-is_marked : goal.loop-place-preserved-then-not-is_marked
loop-place-preserved-then-not-is_marked g c =
    let known = known_by (lookup solve c.args.loaded.now) c.args.program.now in
    subst (IsTable (marked c.args.marks.now) known (c.loop-place.place + 1)) (sym c.in_ok-push.ensures.items)
    (none_more (lookup solve c.args.loaded.now) c.args.program.now
    (marked c.args.marks.now) c.loop-place.place c.loop-place.table.items c.loop-place.invariant
    (sym c.is_marked.ensures ∙ c.if-not-is_marked.true))

pub loop-place-preserved : goal.loop-place-preserved
loop-place-preserved g c =
    let program = c.args.program.now in
    let loaded = c.args.loaded.now in
    let place = c.loop-place.place in
    let known = known_by (lookup solve loaded) program in
    let part : Component = component_value (flows_of program) c.index-components-place.result in
    let at : slice_get (program_components program) place ≡ Some part =
    part_at program c.args.components.now c.requires.rows place c.index-components-place.result
    (row_at c.args.components.now c.args.components.now place c.index-components-place.result refl c.loop-place-test.true
    c.index-components-place.is) in
    subst (IsTable (marked c.args.marks.now) known (place + 1)) (sym c.in_ok-push-2.ensures.items)
    (one_more (lookup solve loaded) program
    (marked c.args.marks.now) c.requires.closed place part c.loop-place.table.items c.in_ok-entry.entry at c.loop-place.invariant
    (sym c.is_marked.ensures ∙ c.if-not-is_marked.false)
    (c.in_ok-entry.ensures ∙
    ap (answered (lookup solve loaded))
    (c.in_ok-key.ensures
    ∙ ap (λ (l : List (Option Kept)). key_by program.structs (answer_at l) part) c.deref-in-loop-place.ensures.value)))
