use Rattle.std.proofs.Common.{◌≡◌, map, drop}
use Rattle.c_types_rules.specs.Items.{lines_refusals}
use Rattle.c_tree.specs.Syntax.{fields_tree}
use Rattle.c_types_names.specs.FirstRefusal.{with_refusals}
use Rattle.c_types.proofs.structures.lines_refusals.Given as goal

abbrev pub invariant-loop-line : goal.invariant-loop-line
invariant-loop-line l =
    with_refusals l.first (lines_refusals l.tables (map fields_tree (drop l.line-index l.lines)))
    ≡ with_refusals l.initial.first (lines_refusals l.tables (map fields_tree l.lines))
