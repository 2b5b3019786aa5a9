use Rattle.std.proofs.Common.{◌≡◌, map}
use Rattle.c_types_rules.specs.Statements.{behind_locals, behind_declaration}
use Rattle.c_tree.specs.NonEmpty.{left}
use Rattle.c_tree.specs.Syntax.{specifier_tree, initialized_tree, local_tree}
use Rattle.c_types_stmts.proofs.locals.unchecked_locals.Given as goal

abbrev pub invariant-loop-declarator : goal.invariant-loop-declarator
invariant-loop-declarator l =
    behind_locals l.env (specifier_tree l.one.specifier) (map initialized_tree (left l.declarator-iterator))
    ≡ behind_declaration l.initial.env (local_tree l.one)
