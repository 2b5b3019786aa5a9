use Rattle.c_grammar.proofs.TokensLemmas.GapLaw.{keep_tokens}
use Rattle.c_grammar.proofs.tokens.laws.blank_behind_token.Goals as goal

pub returns : goal.returns
returns c = keep_tokens
