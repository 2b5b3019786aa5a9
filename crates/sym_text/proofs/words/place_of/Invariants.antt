-- The name stands behind those that were passed.
use Rattle.std.proofs.Common.{◌≡◌, ◌+◌, true, map, drop}
use Rattle.sym_text.specs.Reading.{is_one_of, place_of}
use Rattle.sym_text.proofs.words.place_of.Given as goal

abbrev pub invariant-loop-place : goal.invariant-loop-place
invariant-loop-place g l =
    (is_one_of (map g.T.Named.name_of (drop l.place l.things)) l.word ≡ true)
    × (place_of (map g.T.Named.name_of l.things) l.word ≡ l.place + place_of (map g.T.Named.name_of (drop l.place l.things)) l.word)
