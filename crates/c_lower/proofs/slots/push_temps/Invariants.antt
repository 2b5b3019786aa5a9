use Rattle.std.proofs.Common.{◌≡◌, ◌++◌, map, drop}
use Rattle.c_types_names.specs.Seen.{type_seen}
use Rattle.c_lower.proofs.slots.push_temps.Given as goal

abbrev pub invariant-loop-temp : goal.invariant-loop-temp
invariant-loop-temp l = l.slots ++ map type_seen (drop l.temp-index l.temps) ≡ l.initial.slots ++ map type_seen l.temps
