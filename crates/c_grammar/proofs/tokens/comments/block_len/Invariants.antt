use Rattle.std.proofs.Common.{◌≡◌, drop}
use Rattle.c_grammar.specs.Tokens.Scan.{block_end}
use Rattle.c_grammar.specs.declared.tokens.comments.Behind.TheVariants.{Other}
use Rattle.c_grammar.proofs.tokens.comments.block_len.Given as goal

abbrev pub invariant-loop-place : goal.invariant-loop-place
invariant-loop-place l = block_end l.place l.behind (drop l.place l.bytes) ≡ block_end 0 Other l.bytes
