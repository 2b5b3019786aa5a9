-- Command by command.
use Rattle.heapan_top.proofs.Honest.{honest_through}
use Rattle.heapan_top.proofs.laws.honest_replies.Goals as goal

pub returns : goal.returns
returns c =
    λ setting stream text ended honest replies. honest_through c.honest_answers.ensures c.answers_keep_limits.ensures.setting _ stream text
    ended honest replies
