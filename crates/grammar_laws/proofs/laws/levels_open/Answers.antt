use Rattle.grammar_laws.proofs.Opened.{follows}
use Rattle.grammar_laws.proofs.laws.levels_open.Goals as goal

pub returns : goal.returns
returns c = λ form other opens from. follows opens from
