use Rattle.std.proofs.Common.{◌≡◌, ◌++◌, [], map, drop}
use Rattle.c_types_rules.specs.Programs.{first_structures}
use Rattle.c_types_names.specs.Seen.{structure_seen}
use Rattle.c_types.proofs.defs.first_structures.Given as goal

abbrev pub invariant-loop-one : goal.invariant-loop-one
invariant-loop-one l =
    l.firsts ++ first_structures (l.firsts) (map structure_seen (drop l.one-index l.structures))
    ≡ first_structures [] (map structure_seen l.structures)
