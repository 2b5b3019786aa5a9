-- Whether one of those that are left has the name is whether one of all has.
use Rattle.std.proofs.Common.{◌≡◌, map, drop}
use Rattle.sym_text.specs.Reading.{is_one_of}
use Rattle.sym_text.proofs.words.is_one_of.Given as goal

abbrev pub invariant-loop-thing : goal.invariant-loop-thing
invariant-loop-thing g l = is_one_of (map g.T.Named.name_of (drop l.thing-index l.things)) l.word
    ≡ is_one_of (map g.T.Named.name_of l.things) l.word
