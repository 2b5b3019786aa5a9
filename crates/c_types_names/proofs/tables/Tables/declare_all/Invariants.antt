use Rattle.std.proofs.Common.{◌≡◌, map, drop}
use Rattle.c_types_rules.specs.Tables.{joined, declared_by}
use Rattle.c_tree.specs.Syntax.{item_tree}
use Rattle.c_types_names.proofs.tables.Tables.declare_all.Given as goal

abbrev pub invariant-loop-item : goal.invariant-loop-item
invariant-loop-item l = joined l.self (declared_by (map item_tree (drop l.item-index l.items)))
    ≡ joined l.initial.self (declared_by (map item_tree l.items))
