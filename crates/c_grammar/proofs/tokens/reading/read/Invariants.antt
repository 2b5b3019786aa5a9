use Rattle.std.proofs.Common.{◌≡◌, length}
use Rattle.c_grammar.specs.Tokens.Reading.{reading}
use Rattle.c_grammar.specs.Tokens.Steps.{HasRoom, read, with_tokens}
use Rattle.c_grammar.proofs.tokens.reading.read.Given as goal

abbrev pub invariant-loop-cursor : goal.invariant-loop-cursor
invariant-loop-cursor l = record {
  so_far : with_tokens l.found.items (read l.cursor) ≡ reading l.bytes;
  room : HasRoom l.cursor;
}

abbrev pub decreases-loop-cursor : goal.decreases-loop-cursor
decreases-loop-cursor l = length l.cursor.rest.now
