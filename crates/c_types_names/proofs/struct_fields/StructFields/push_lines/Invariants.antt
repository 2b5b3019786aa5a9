use Rattle.std.proofs.Common.{◌≡◌, ◌++◌, map, drop}
use Rattle.c_tree.specs.Syntax.{fields_tree}
use Rattle.c_types_names.specs.StructFields.{declared_fields}
use Rattle.c_types_names.proofs.struct_fields.StructFields.push_lines.Given as goal

abbrev pub invariant-loop-line : goal.invariant-loop-line
invariant-loop-line l = l.self ++ declared_fields (map fields_tree (drop l.line-index l.lines))
    ≡ l.initial.self ++ declared_fields (map fields_tree l.lines)
