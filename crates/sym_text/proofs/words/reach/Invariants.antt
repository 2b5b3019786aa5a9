-- How far one of those that are left goes is how far one of all goes.
use Rattle.std.proofs.Common.{◌≡◌, ◌≤◌, length, map, drop}
use Rattle.sym_text.specs.Reading.{reach_from}
use Rattle.sym_text.proofs.words.reach.Given as goal

abbrev pub invariant-loop-thing : goal.invariant-loop-thing
invariant-loop-thing g l =
    (reach_from l.reached (map g.T.Named.name_of (drop l.thing-index l.things)) l.text
    ≡ reach_from l.fn.most (map g.T.Named.name_of l.things) l.text)
    × (l.reached ≤ length l.text)
