use Rattle.c_grammar.proofs.TokensLemmas.TextLaws.{not_both as law}
use Rattle.c_grammar.proofs.tokens.laws.tokens_or_refusal.Goals as goal

pub returns : goal.returns
returns c = law
