use Rattle.std.proofs.Common.{◌≡◌, ◌++◌, map, take, drop}
use Rattle.c_lower_emit.specs.KeptTemps.{unused}
use Rattle.c_lower_emit.proofs.temps.release_all.Given as goal

abbrev pub invariant-loop-place : goal.invariant-loop-place
invariant-loop-place l = l.temps.items ≡ map unused (take l.place l.initial.temps.items) ++ drop l.place l.initial.temps.items
