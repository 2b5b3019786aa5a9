-- What holds of all summaries holds of each.
use Rattle.std.proofs.Common.{◌<◌, length, sym, ap, subst, ◌∙◌, rules}
use Rattle.report_text.specs.Parts.{IsPrintable}
use Rattle.report_text.proofs.Having.{its_holds}
use Rattle.report_text.proofs.reports.push_blocks.Goals as goal

pub push_block-requires : goal.push_block-requires
push_block-requires g c =
    let all = c.args.summaries.now in
    let place = c.loop-place.place in
    let one = c.index-summaries-place.result in
    let its = g.S.HasSummary.its in
    let here : place < length all = search rules in
    subst (IsPrintable c.args.structs.now) (sym (c.summary.ensures ∙ ap its c.index-summaries-place.is))
    (its_holds (IsPrintable c.args.structs.now) its all place one here c.requires.printable)
