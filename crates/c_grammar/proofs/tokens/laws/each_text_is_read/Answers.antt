use Rattle.c_grammar.proofs.TokensLemmas.TextLaws.{either as law}
use Rattle.c_grammar.proofs.tokens.laws.each_text_is_read.Goals as goal

pub returns : goal.returns
returns c = law
