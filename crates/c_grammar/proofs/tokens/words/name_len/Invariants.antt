use Rattle.std.proofs.Common.{◌≡◌, ℕ, ◌<◌, true, get_or}
use Rattle.shape_data.specs.Names.{is_name_byte}
use Rattle.c_grammar.proofs.tokens.words.name_len.Given as goal

abbrev pub invariant-loop-place : goal.invariant-loop-place
invariant-loop-place l = (k : ℕ) → k < l.place → is_name_byte (get_or l.bytes k 0) ≡ true
