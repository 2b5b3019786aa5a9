-- A program is well formed, and so reported on.
use Rattle.session_replies.proofs.laws.reported_is_valid.Goals as goal

pub returns : goal.returns
returns c = λ loaded files program right are reads.
    let fine = c.answers_are_well_formed.ensures files program are reads in
    (fine, c.each_is_reported.ensures.solved loaded right program fine)
