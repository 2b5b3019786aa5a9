use Rattle.c_grammar.proofs.TokensLemmas.TextLaws.{one_reading as law}
use Rattle.c_grammar.proofs.tokens.laws.one_reading.Goals as goal

pub returns : goal.returns
returns c = law
