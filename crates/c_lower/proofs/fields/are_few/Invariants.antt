use Rattle.std.proofs.Common.{◌≡◌, nat_le, length, map, drop}
use Rattle.c_types_rules.specs.Items.{field_names}
use Rattle.c_lower_rules.specs.Programs.{MOST_FIELDS}
use Rattle.c_tree.specs.Syntax.{fields_tree}
use Rattle.c_lower.proofs.fields.are_few.Given as goal

abbrev pub invariant-loop-line : goal.invariant-loop-line
invariant-loop-line l =
    nat_le (length (field_names (map fields_tree (drop l.line-index l.lines)))) l.left
    ≡ nat_le (length (field_names (map fields_tree l.lines))) MOST_FIELDS
