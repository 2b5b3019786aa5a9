use Rattle.std.proofs.Common.{◌≡◌, map, take}
use Rattle.c_types_rules.specs.Programs.{struct_def}
use Rattle.c_types_names.specs.Seen.{structure_seen}
use Rattle.c_types.proofs.defs.defs_of.Given as goal

abbrev pub invariant-loop-one : goal.invariant-loop-one
invariant-loop-one l = l.defs.items ≡ map (struct_def l.tables) (map structure_seen (take l.one-index l.structures))
