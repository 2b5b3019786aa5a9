-- One callee more, by its place in the program and its component's in the table.
use Rattle.std.proofs.Common.{◌≡◌, ◌++◌, ◌∷◌, ◌∙◌, List, [], Some, filter_map, get_or, length, map, option_map, refl, slice_get, sym, take}
use Rattle.std.proofs.Common.{ap}
use Rattle.std.specs.Option.{option_copied}
use Rattle.std.proofs.lemmas.List.{get_or_default}
use Rattle.std.proofs.lemmas.Option.{slice_get-map, slice_get_read}
use Rattle.shape_data.specs.declared.program.Proc.{Proc}
use Rattle.component_keys.specs.Keys.{flows_of}
use Rattle.composed_keys.specs.declared.rows.Outer.{Outer}
use Rattle.composed_keys.specs.Rows.{outer_value}
use Rattle.session_replies.specs.PlainAnswers.Table.{answer_at, callee_as, callee_over}
use Rattle.session_replies.proofs.PlainAnswersLemmas.Called.{callees_more}
use Rattle.session_replies.proofs.plain_answers.keys.callees_of.Goals as goal

pub loop-outer-preserved : goal.loop-outer-preserved
loop-outer-preserved c =
    let none : Outer = record { number = 0; component = 0 } in
    let one : Outer = get_or c.args.outers.now c.loop-outer.outer-index (record { number = 0; component = 0 }) in
    let procs : List Proc = c.args.program.now.procs in
    let proc : slice_get procs one.number ≡ Some c.index-deref-outer.result =
    slice_get_read procs (length procs) one.number c.index-deref-outer.result refl
    (c.requires c.loop-outer.outer-index none c.loop-outer-test.true)
    (c.index-deref-outer.is ∙ ap (λ (l : List Proc). get_or l one.number c.index-deref-outer.result) c.deref.ensures) in
    let flow : slice_get (flows_of c.args.program.now) one.number ≡ Some c.index-deref-outer.result.flow =
    slice_get-map (λ (p : Proc). p.flow) procs one.number ∙ ap (option_map (λ (p : Proc). p.flow)) proc in
    c.in_ok-push.ensures.ok ∙
    (ap (λ l. l ++ c.in_ok-callee_by.field-0 ∷ []) c.loop-outer.invariant ∙
    (ap (λ x. map (callee_over (answer_at c.args.table.now))
    (filter_map (outer_value (flows_of c.args.program.now)) (take c.loop-outer.outer-index c.args.outers.now)) ++ x ∷ [])
    (c.in_ok-callee_by.ensures ∙ ap (λ (p : Proc). callee_as p.flow (option_copied c.answer_of-answer.result)) (sym c.index-deref-outer.is)
    ∙
    ap (callee_as c.index-deref-outer.result.flow) c.answer_of-answer.ensures) ∙
    sym (callees_more c.args.program.now
    (answer_at c.args.table.now) c.args.outers.now c.loop-outer.outer-index one c.index-deref-outer.result.flow c.loop-outer-test.true
    (get_or_default c.args.outers.now c.loop-outer.outer-index one none c.loop-outer-test.true) flow)))
