use Rattle.c_grammar.proofs.TokensLemmas.TextLaws.{listed as law}
use Rattle.c_grammar.proofs.tokens.laws.tokens_are_listed.Goals as goal

pub returns : goal.returns
returns c = law
