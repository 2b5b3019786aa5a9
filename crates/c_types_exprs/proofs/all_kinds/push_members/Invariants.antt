use Rattle.std.proofs.Common.{◌≡◌, ◌++◌, map}
use Rattle.c_types_rules.specs.Kinds.{member_kinds}
use Rattle.c_tree.specs.NonEmpty.{left, items}
use Rattle.c_tree.specs.Syntax.{ident_tree}
use Rattle.c_types_names.specs.Seen.{kind_seen}
use Rattle.c_types_exprs.proofs.all_kinds.push_members.Given as goal

abbrev pub invariant-loop-field : goal.invariant-loop-field
invariant-loop-field l =
    l.list ++ member_kinds l.tables (kind_seen l.current) (map ident_tree (left l.field-iterator))
    ≡ l.initial.list ++ member_kinds l.tables (kind_seen l.initial.current) (map ident_tree (items l.fields))
