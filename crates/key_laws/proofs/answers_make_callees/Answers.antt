use Rattle.key_laws.proofs.Callees.{answers_are_callees}
use Rattle.key_laws.proofs.answers_make_callees.Goals as goal

pub returns : goal.returns
returns c = answers_are_callees
