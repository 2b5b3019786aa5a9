use Rattle.std.proofs.Common.{◌≡◌, map, drop}
use Rattle.c_types_rules.specs.Items.{same_fields}
use Rattle.c_types_names.specs.Seen.{field_seen}
use Rattle.c_types_names.specs.StructFields.{declared_seen, kind_of_declared}
use Rattle.c_types.proofs.fields.same_fields_of.Given as goal

abbrev pub invariant-loop-place : goal.invariant-loop-place
invariant-loop-place l =
    same_fields (map (kind_of_declared l.tables) (map declared_seen (drop l.place l.ones))) (map field_seen (drop l.place l.others))
    ≡ same_fields (map (kind_of_declared l.tables) (map declared_seen l.ones)) (map field_seen l.others)
