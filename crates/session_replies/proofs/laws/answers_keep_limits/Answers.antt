-- By each command.
use Rattle.session_replies.proofs.AnswerLaws.{keeps, keeps_setting}
use Rattle.session_replies.proofs.laws.answers_keep_limits.Goals as goal

pub returns : goal.returns
returns c = record { limits = keeps c.limits_are_kept.ensures; setting = keeps_setting }
