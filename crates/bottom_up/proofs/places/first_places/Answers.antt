-- One answer more is added.
use Rattle.std.proofs.Common.{◌≡◌, ◌∙◌, ◌++◌, Some, length, refl, slice_get, subst, sym, ap, take}
use Rattle.std.proofs.lemmas.List.{take_all}
use Rattle.std.proofs.lemmas.Option.{slice_get_read}
use Rattle.shape_data.specs.declared.answer.Answer.{Answer}
use Rattle.bottom_up.specs.Placed.{AreFirst, answers_kept, summaries_in}
use Rattle.bottom_up.proofs.FirstSummaries.{answer_at, answers_more}
use Rattle.bottom_up.proofs.places.first_places.Goals as goal

pub loop-component-preserved : goal.loop-component-preserved
loop-component-preserved c =
    let kept = c.args.kept.now in
    let i = c.loop-component.component in
    let one = c.index-kept-component.result in
    let at : slice_get kept i ≡ Some one =
    slice_get_read kept (length kept) i one refl c.loop-component-test.true c.index-kept-component.is in
    subst (λ l. AreFirst (answers_kept kept) l c.add_answer.new.firsts)
    (ap (λ (answer : Answer). summaries_in (answers_kept (take i kept)) ++ answer.procs) c.deref.ensures ∙ answers_more kept i one at)
    (c.in_ok-add_answer.ensures (answers_kept kept) (summaries_in (answers_kept (take i kept)))
    (answer_at kept i one at ∙ ap (λ a. Some a) (sym c.deref.ensures)) c.loop-component.invariant)

pub returns : goal.returns
returns c =
    subst (λ l. AreFirst (answers_kept c.args.kept.now) (summaries_in (answers_kept l)) c.loop-component.firsts)
    (take_all c.loop-component.component c.args.kept.now c.loop-component-test.false)
    c.loop-component.invariant
