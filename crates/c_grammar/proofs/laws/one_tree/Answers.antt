use Rattle.c_grammar.proofs.OneTree.{one_tree as law}
use Rattle.c_grammar.proofs.laws.one_tree.Goals as goal

pub returns : goal.returns
returns c = law
