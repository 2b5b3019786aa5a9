use Rattle.std.proofs.Common.{◌≡◌, map}
use Rattle.c_types_rules.specs.Expressions.{members_refusals, kind_of_members}
use Rattle.c_tree.specs.NonEmpty.{left, items}
use Rattle.c_tree.specs.Syntax.{ident_tree}
use Rattle.c_types_names.specs.Seen.{kind_seen}
use Rattle.c_types_names.specs.FirstRefusal.{with_refusals}
use Rattle.c_types_exprs.proofs.refusals.members_refusals.Given as goal

abbrev pub invariant-loop-field : goal.invariant-loop-field
invariant-loop-field l = record {
  refusals : with_refusals l.first (members_refusals l.tables l.place (kind_seen l.current) (map ident_tree (left l.field-iterator)))
      ≡ with_refusals l.initial.first (members_refusals l.tables l.place (kind_seen l.initial.current) (map ident_tree (items l.fields)));
  kind : kind_of_members l.tables (kind_seen l.current) (map ident_tree (left l.field-iterator))
      ≡ kind_of_members l.tables (kind_seen l.initial.current) (map ident_tree (items l.fields));
}
