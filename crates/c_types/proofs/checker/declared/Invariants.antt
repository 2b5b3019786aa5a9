use Rattle.std.proofs.Common.{◌≡◌, map, drop}
use Rattle.c_tree.specs.Syntax.{unit_tree}
use Rattle.c_types_rules.specs.Tables.{joined, declared_by, items_of}
use Rattle.c_types_rules.specs.Programs.{tables_of}
use Rattle.c_types.proofs.checker.declared.Given as goal

abbrev pub invariant-loop-unit : goal.invariant-loop-unit
invariant-loop-unit l = joined l.tables (declared_by (items_of (map unit_tree (drop l.unit-index l.units))))
    ≡ tables_of (map unit_tree l.units)
