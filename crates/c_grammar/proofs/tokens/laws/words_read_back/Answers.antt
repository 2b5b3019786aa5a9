use Rattle.c_grammar.proofs.TokensLemmas.TextLaws.{words_read_back as law}
use Rattle.c_grammar.proofs.tokens.laws.words_read_back.Goals as goal

pub returns : goal.returns
returns c = law
