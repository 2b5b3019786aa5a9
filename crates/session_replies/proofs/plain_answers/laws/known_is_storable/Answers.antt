use Rattle.session_replies.proofs.PlainAnswersLemmas.Storing.{known_is_storable}
use Rattle.session_replies.proofs.plain_answers.laws.known_is_storable.Goals as goal

pub returns : goal.returns
returns c = known_is_storable c.solved_is_storable.ensures c.composed_keys_have_sizes.ensures
