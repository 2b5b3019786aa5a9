-- One summary more is added.
use Rattle.std.proofs.Common.{◌≡◌, ◌++◌, Some, length, refl, slice_get, subst, take}
use Rattle.std.proofs.lemmas.Option.{slice_get_read}
use Rattle.bottom_up.specs.Placed.{AreFirst}
use Rattle.bottom_up.proofs.FirstSummaries.{summaries_more, summary_at}
use Rattle.bottom_up.proofs.places.add_answer.Goals as goal

pub loop-member-preserved : goal.loop-member-preserved
loop-member-preserved c = λ answers before at are.
    let items = c.as_slice-summary-items.result.now in
    let i = c.loop-member.member in
    let here : slice_get items i ≡ Some c.summary-item.result =
    slice_get_read items (length items) i c.summary-item.result refl c.loop-member-test.true c.summary-item.is in
    subst (λ l. AreFirst answers l c.add_summary.new.firsts) (summaries_more before items i c.summary-item.result here)
    (c.in_ok-add_summary.ensures answers (before ++ take i items)
    (summary_at answers c.args.component i c.args.answer.now c.summary-item.result at
    (subst (λ l. slice_get l i ≡ Some c.summary-item.result) c.as_slice-summary-items.ensures here))
    (c.loop-member.invariant answers before at are))
