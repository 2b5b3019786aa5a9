use Rattle.std.proofs.Common.{◌≡◌, ◌+◌, ◌≤◌, drop}
use Rattle.c_grammar.specs.Tokens.Places.{place_after}
use Rattle.c_grammar.proofs.tokens.places.Place.after_all.Given as goal

abbrev pub invariant-loop-byte : goal.invariant-loop-byte
invariant-loop-byte l = record {
  so_far : place_after l.place (drop l.byte-index l.bytes) ≡ place_after l.fn.self l.bytes;
  line : l.place.line ≤ l.fn.self.line + l.byte-index;
  column : l.place.column ≤ l.fn.self.column + l.byte-index;
}
