use Rattle.std.proofs.Common.{◌≡◌, ◌++◌, map}
use Rattle.c_tree.specs.NonEmpty.{left}
use Rattle.c_tree.specs.Syntax.{specifier_tree, declarator_tree, fields_tree}
use Rattle.c_types_names.specs.StructFields.{declared_by_one, declared_in_line}
use Rattle.c_types_names.proofs.struct_fields.StructFields.push_line.Given as goal

abbrev pub invariant-loop-one : goal.invariant-loop-one
invariant-loop-one l =
    l.self ++ map (declared_by_one (specifier_tree l.line.specifier)) (map declarator_tree (left l.one-iterator))
    ≡ l.initial.self ++ declared_in_line (fields_tree l.line)
