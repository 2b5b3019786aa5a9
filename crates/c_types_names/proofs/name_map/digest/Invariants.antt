use Rattle.std.proofs.Common.{◌≡◌, drop}
use Rattle.c_types_names.specs.NameMap.{digest, digest_from}
use Rattle.c_types_names.proofs.name_map.digest.Given as goal

abbrev pub invariant-loop-byte : goal.invariant-loop-byte
invariant-loop-byte l = digest_from l.number (drop l.byte-index l.bytes) ≡ digest l.bytes
