use Rattle.std.proofs.Common.{◌≡◌, ◌++◌, map}
use Rattle.c_types_rules.specs.Tables.{field_kind}
use Rattle.c_tree.specs.NonEmpty.{left, items}
use Rattle.c_tree.specs.Syntax.{fields_tree, declarator_tree}
use Rattle.c_types.proofs.fields.Fields.push_line.Given as goal

abbrev pub invariant-loop-one : goal.invariant-loop-one
invariant-loop-one l =
    l.self ++ map (field_kind l.tables (fields_tree l.line).specifier) (map declarator_tree (left l.one-iterator))
    ≡ l.initial.self ++ map (field_kind l.tables (fields_tree l.line).specifier) (map declarator_tree (items l.line.declarators))
