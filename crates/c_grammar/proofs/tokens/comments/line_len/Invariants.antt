use Rattle.std.proofs.Common.{◌≡◌, drop, false}
use Rattle.c_grammar.specs.Tokens.Scan.{line_end}
use Rattle.c_grammar.proofs.tokens.comments.line_len.Given as goal

abbrev pub invariant-loop-place : goal.invariant-loop-place
invariant-loop-place l = line_end l.place l.joined (drop l.place l.bytes) ≡ line_end 0 false l.bytes
