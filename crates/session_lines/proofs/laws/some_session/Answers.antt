use Rattle.session_lines.proofs.SessionLemmas.{some_session}
use Rattle.session_lines.proofs.laws.some_session.Goals as goal

pub returns : goal.returns
returns c = some_session
