use Rattle.std.proofs.Common.{arith}
use Rattle.c_grammar.proofs.TokensLemmas.Digits.{front_value, next_digit, next_value}
use Rattle.c_grammar.proofs.tokens.words.digits_value.Goals as goal

pub overflow_mul-value : goal.overflow_mul-value
overflow_mul-value c =
    let bound =
    front_value c.args.word.now c.loop-byte.byte-index c.loop-byte.value c.requires.digits c.loop-byte.invariant
    (omega arith) c.requires.short in
    omega arith

pub overflow_sub-byte : goal.overflow_sub-byte
overflow_sub-byte c = (next_digit c.args.word.now c.loop-byte.byte-index c.requires.digits (omega arith)).0

pub overflow_add-value : goal.overflow_add-value
overflow_add-value c =
    let bound =
    front_value c.args.word.now c.loop-byte.byte-index c.loop-byte.value c.requires.digits c.loop-byte.invariant
    (omega arith) c.requires.short in
    let digit = next_digit c.args.word.now c.loop-byte.byte-index c.requires.digits (omega arith) in
    omega arith

pub loop-byte-preserved : goal.loop-byte-preserved
loop-byte-preserved c =
    next_value c.args.word.now c.loop-byte.byte-index c.loop-byte.value c.from.result c.requires.digits (omega arith) c.loop-byte.invariant
    (omega arith)
