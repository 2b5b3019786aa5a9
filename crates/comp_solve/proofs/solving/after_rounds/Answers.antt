use Rattle.std.proofs.Common.{sym, ap, ◌∙◌, length}
use Rattle.comp_solve.proofs.FormedLaws.{formed-length}
use Rattle.comp_solve.proofs.solving.after_rounds.Goals as goal

pub summaries_of-requires : goal.summaries_of-requires
summaries_of-requires c =
    ap length c.as_slice-in-Some-3.ensures
    ∙ formed-length c.args.key.now c.in_ok-standing-in-Some.standing c.in_ok-standing-in-Some.ensures.formed
    ∙ sym (ap length c.as_slice-in-Some-2.ensures)
