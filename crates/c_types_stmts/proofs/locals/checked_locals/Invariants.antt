use Rattle.std.proofs.Common.{◌≡◌, map}
use Rattle.c_types_rules.specs.Statements.{locals, behind_locals, behind_declaration}
use Rattle.c_tree.specs.NonEmpty.{left, items}
use Rattle.c_tree.specs.Syntax.{specifier_tree, initialized_tree, local_tree}
use Rattle.c_types_stmts.specs.Adding.{AddsUpTo}
use Rattle.c_types_stmts.proofs.locals.checked_locals.Given as goal

abbrev pub invariant-loop-declarator : goal.invariant-loop-declarator
invariant-loop-declarator l = record {
  found : AddsUpTo (locals l.env (specifier_tree l.one.specifier) (map initialized_tree (left l.declarator-iterator)))
      (locals l.initial.env (specifier_tree l.one.specifier) (map initialized_tree (items l.one.declarators)))
      l.initial.found l.found;
  env : behind_locals l.env (specifier_tree l.one.specifier) (map initialized_tree (left l.declarator-iterator))
      ≡ behind_declaration l.initial.env (local_tree l.one);
}
