use Rattle.std.proofs.Common.{◌≡◌, ◌+◌, ◌==◌, All, map, drop}
use Rattle.shape_data.specs.declared.program.Ty.{Ty}
use Rattle.c_types_rules.specs.Types.{same_type}
use Rattle.c_lower_rules.specs.Temporaries.{take_temp}
use Rattle.c_types_names.specs.Seen.{type_seen}
use Rattle.c_lower_emit.specs.Seen.{temp_seen}
use Rattle.c_lower_emit.proofs.temps.place_of_free.Given as goal

abbrev pub invariant-loop-place : goal.invariant-loop-place
invariant-loop-place l =
    (kind : Ty) → All (λ temp. (temp.first == l.first) ≡ same_type (type_seen temp.kind) kind) l.temps
    → (take_temp kind (map temp_seen l.temps)).place ≡ l.place + (take_temp kind (map temp_seen (drop l.place l.temps))).place
