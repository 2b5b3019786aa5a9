use Rattle.std.proofs.Common.{◌≡◌, map, drop}
use Rattle.c_tree.specs.Syntax.{unit_tree}
use Rattle.c_lower.specs.Building.{IsBuiltUpTo}
use Rattle.c_lower.proofs.lowering.build.Given as goal

abbrev pub invariant-loop-place : goal.invariant-loop-place
invariant-loop-place l = record {
  built : IsBuiltUpTo l.initial.context.env.tables (map unit_tree l.units) l.files l.most (map unit_tree (drop l.place l.units))
      (drop l.place l.files) l.place l.built;
  tables : l.context.env.tables ≡ l.initial.context.env.tables;
}
