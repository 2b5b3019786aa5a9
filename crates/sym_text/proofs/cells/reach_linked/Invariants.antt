-- How far one of those that are left goes is how far one of all goes.
use Rattle.std.proofs.Common.{◌≡◌, ◌≤◌, length, drop}
use Rattle.sym_text.specs.Reading.{reach_from, linked}
use Rattle.sym_text.proofs.cells.reach_linked.Given as goal

abbrev pub invariant-loop-def : goal.invariant-loop-def
invariant-loop-def l = (reach_from l.reached (linked (drop l.def-index l.structs)) l.text ≡ reach_from 0 (linked l.structs) l.text)
    × (l.reached ≤ length l.text)
