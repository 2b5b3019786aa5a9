use Rattle.session_lines.proofs.SessionLemmas.{one_first}
use Rattle.session_lines.proofs.laws.one_first.Goals as goal

pub returns : goal.returns
returns c = one_first
