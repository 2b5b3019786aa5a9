use Rattle.std.proofs.Common.{◌≡◌, map}
use Rattle.c_types_rules.specs.Items.{declarator_refusals}
use Rattle.c_tree.specs.NonEmpty.{left, items}
use Rattle.c_tree.specs.Syntax.{specifier_tree, declarator_tree}
use Rattle.c_types_names.specs.FirstRefusal.{with_refusals}
use Rattle.c_types.proofs.structures.declarator_refusals.Given as goal

abbrev pub invariant-loop-one : goal.invariant-loop-one
invariant-loop-one l =
    with_refusals l.first (declarator_refusals (specifier_tree l.specifier) (map declarator_tree (left l.one-iterator)))
    ≡ with_refusals l.initial.first (declarator_refusals (specifier_tree l.specifier) (map declarator_tree (items l.ones)))
