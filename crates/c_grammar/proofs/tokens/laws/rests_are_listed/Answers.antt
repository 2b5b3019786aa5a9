use Rattle.c_grammar.proofs.TokensLemmas.TextLaws.{rests_listed}
use Rattle.c_grammar.proofs.tokens.laws.rests_are_listed.Goals as goal

pub returns : goal.returns
returns c = rests_listed
