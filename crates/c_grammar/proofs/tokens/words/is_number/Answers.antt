use Rattle.std.proofs.Common.{sym, ◌∙◌}
use Rattle.c_grammar.proofs.TokensLemmas.Digits.{plain_digits}
use Rattle.c_grammar.proofs.tokens.words.is_number.Goals as goal

pub digits_value-requires-clause-digits : goal.digits_value-requires-clause-digits
digits_value-requires-clause-digits c = plain_digits c.args.word.now (sym c.is_plain.ensures ∙ c.if-is_plain.true)
