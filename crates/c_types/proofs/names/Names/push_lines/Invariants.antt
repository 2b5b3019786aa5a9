use Rattle.std.proofs.Common.{◌≡◌, ◌++◌, map, drop}
use Rattle.c_types_rules.specs.Items.{field_names}
use Rattle.c_tree.specs.Syntax.{fields_tree}
use Rattle.c_types.proofs.names.Names.push_lines.Given as goal

abbrev pub invariant-loop-line : goal.invariant-loop-line
invariant-loop-line l = l.self ++ field_names (map fields_tree (drop l.line-index l.lines))
    ≡ l.initial.self ++ field_names (map fields_tree l.lines)
