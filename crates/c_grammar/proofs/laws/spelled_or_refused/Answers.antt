use Rattle.c_grammar.proofs.OneRefusal.{not_both as law}
use Rattle.c_grammar.proofs.laws.spelled_or_refused.Goals as goal

pub returns : goal.returns
returns c = law
