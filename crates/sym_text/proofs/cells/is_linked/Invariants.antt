-- Whether one of those that are left is meant is whether one of all is.
use Rattle.std.proofs.Common.{◌≡◌, drop}
use Rattle.sym_text.specs.Reading.{is_one_of, linked}
use Rattle.sym_text.proofs.cells.is_linked.Given as goal

abbrev pub invariant-loop-def : goal.invariant-loop-def
invariant-loop-def l = is_one_of (linked (drop l.def-index l.structs)) l.name ≡ is_one_of (linked l.structs) l.name
