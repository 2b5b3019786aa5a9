use Rattle.std.proofs.Common.{◌≡◌, map, take}
use Rattle.c_types_rules.specs.Programs.{field_def}
use Rattle.c_types_names.specs.Seen.{field_seen}
use Rattle.c_types.proofs.defs.field_defs.Given as goal

abbrev pub invariant-loop-field : goal.invariant-loop-field
invariant-loop-field l = l.defs.items ≡ map field_def (map field_seen (take l.field-index l.fields))
