use Rattle.std.proofs.Common.{◌≡◌, ℕ, ◌<◌, true, get_or}
use Rattle.c_grammar.specs.Tokens.Headers.{is_header_byte}
use Rattle.c_grammar.proofs.tokens.pieces.header_byte_len.Given as goal

abbrev pub invariant-loop-place : goal.invariant-loop-place
invariant-loop-place l = (k : ℕ) → k < l.place → is_header_byte (get_or l.bytes k 0) ≡ true
