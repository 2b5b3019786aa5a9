-- Whether one of those that are left has a field is whether one of all has.
use Rattle.std.proofs.Common.{◌≡◌, drop}
use Rattle.sym_text.specs.Reading.{has_some, linked}
use Rattle.sym_text.proofs.cells.has_linked.Given as goal

abbrev pub invariant-loop-def : goal.invariant-loop-def
invariant-loop-def l = has_some (linked (drop l.def-index l.structs)) ≡ has_some (linked l.structs)
