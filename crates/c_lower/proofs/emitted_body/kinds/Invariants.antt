use Rattle.std.proofs.Common.{◌≡◌, map, take}
use Rattle.c_lower_rules.specs.Programs.{temp_kind}
use Rattle.c_types_names.specs.Seen.{type_seen}
use Rattle.c_lower_emit.specs.Seen.{temp_seen}
use Rattle.c_lower.proofs.emitted_body.kinds.Given as goal

abbrev pub invariant-loop-temp : goal.invariant-loop-temp
invariant-loop-temp l = map type_seen l.kinds.items ≡ map temp_kind (map temp_seen (take l.temp-index l.temps))
