use Rattle.std.proofs.Common.{◌≡◌, map, drop}
use Rattle.c_tree.specs.Syntax.{item_tree}
use Rattle.c_lower.specs.Building.{AddsUpTo, items_part}
use Rattle.c_lower.proofs.items.items.Given as goal

abbrev pub invariant-loop-one : goal.invariant-loop-one
invariant-loop-one l = record {
  built : AddsUpTo (items_part l.initial.context.env.tables l.file (map item_tree (drop l.one-index l.ones)))
      (items_part l.initial.context.env.tables l.file (map item_tree l.ones)) l.initial.built l.built;
  tables : l.context.env.tables ≡ l.initial.context.env.tables;
}
