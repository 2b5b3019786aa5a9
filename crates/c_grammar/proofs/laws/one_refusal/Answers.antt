use Rattle.c_grammar.proofs.OneRefusal.{one_refusal as law}
use Rattle.c_grammar.proofs.laws.one_refusal.Goals as goal

pub returns : goal.returns
returns c = law
