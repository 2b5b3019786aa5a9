use Rattle.c_grammar.proofs.TokensLemmas.TextLaws.{one_refusal as law}
use Rattle.c_grammar.proofs.tokens.laws.one_refusal.Goals as goal

pub returns : goal.returns
returns c = law
