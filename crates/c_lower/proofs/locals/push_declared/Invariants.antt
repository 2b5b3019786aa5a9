use Rattle.std.proofs.Common.{◌≡◌, ◌++◌, map}
use Rattle.c_lower_rules.specs.Statements.{kinds_of_locals, declared_kinds}
use Rattle.c_tree.specs.NonEmpty.{left}
use Rattle.c_tree.specs.Syntax.{specifier_tree, initialized_tree, local_tree}
use Rattle.c_lower.proofs.locals.push_declared.Given as goal

abbrev pub invariant-loop-declarator : goal.invariant-loop-declarator
invariant-loop-declarator l =
    l.slots ++ kinds_of_locals l.tables (specifier_tree l.one.specifier) (map initialized_tree (left l.declarator-iterator))
    ≡ l.initial.slots ++ declared_kinds l.tables (local_tree l.one)
