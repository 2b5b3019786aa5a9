use Rattle.std.proofs.Common.{◌≡◌, None, map, drop}
use Rattle.c_tree.specs.Syntax.{unit_tree}
use Rattle.c_types_rules.specs.Tables.{no_tables, items_of}
use Rattle.c_types_rules.specs.Programs.{files_refusals, items}
use Rattle.c_types_exprs.specs.Listing.{with_kinds}
use Rattle.c_types_names.specs.FirstRefusal.{first_with}
use Rattle.c_types.proofs.checker.find.Given as goal

abbrev pub invariant-loop-place : goal.invariant-loop-place
invariant-loop-place l = record {
  refusal : first_with l.found.first.found (files_refusals l.initial.env.tables l.before l.place (map unit_tree (drop l.place l.units)))
      ≡ first_with None (files_refusals l.initial.env.tables no_tables 0 (map unit_tree l.units));
  kinds : with_kinds l.found.kinds (items l.initial.env.tables l.before (items_of (map unit_tree (drop l.place l.units)))).kinds
      ≡ with_kinds l.initial.found.kinds (items l.initial.env.tables no_tables (items_of (map unit_tree l.units))).kinds;
  tables : l.env.tables ≡ l.initial.env.tables;
}
