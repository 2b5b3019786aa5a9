use Rattle.session_lines.proofs.SessionLemmas.{one_session}
use Rattle.session_lines.proofs.laws.one_session.Goals as goal

pub returns : goal.returns
returns c = one_session
