use Rattle.std.proofs.Common.{sym, ◌∙◌, arith}
use Rattle.std.proofs.lemmas.List.Sums.{prefix_len_is}
use Rattle.c_grammar.specs.Tokens.Headers.{is_header_byte}
use Rattle.c_grammar.proofs.tokens.pieces.header_byte_len.Goals as goal

pub returns-then-not-is_header_byte-clause-value : goal.returns-then-not-is_header_byte-clause-value
returns-then-not-is_header_byte-clause-value c =
    sym (prefix_len_is is_header_byte c.args.bytes.now c.loop-place.place 0 (omega arith) c.loop-place.invariant
    (λ _. sym c.is_header_byte.ensures ∙ c.if-not-is_header_byte.true))

pub returns-clause-value : goal.returns-clause-value
returns-clause-value c =
    sym (prefix_len_is is_header_byte c.args.bytes.now _ 0 (omega arith) (λ k below. c.loop-place.invariant k (omega arith))
    (λ past. absurd (omega arith)))
