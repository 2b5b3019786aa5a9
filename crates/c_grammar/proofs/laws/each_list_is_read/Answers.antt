use Rattle.c_grammar.proofs.OneRefusal.{either as law}
use Rattle.c_grammar.proofs.laws.each_list_is_read.Goals as goal

pub returns : goal.returns
returns c = law
