use Rattle.std.proofs.Common.{◌≡◌, map, drop}
use Rattle.c_types_rules.specs.Tables.{joined, declared_by}
use Rattle.c_types_rules.specs.Programs.{items}
use Rattle.c_tree.specs.Syntax.{item_tree}
use Rattle.c_types_stmts.specs.Adding.{AddsUpTo}
use Rattle.c_types.proofs.items.items.Given as goal

abbrev pub invariant-loop-one : goal.invariant-loop-one
invariant-loop-one l = record {
  found : AddsUpTo (items l.initial.env.tables l.before (map item_tree (drop l.one-index l.ones)))
      (items l.initial.env.tables l.initial.before (map item_tree l.ones)) l.initial.found l.found;
  before : joined l.before (declared_by (map item_tree (drop l.one-index l.ones)))
      ≡ joined l.initial.before (declared_by (map item_tree l.ones));
  tables : l.env.tables ≡ l.initial.env.tables;
}
