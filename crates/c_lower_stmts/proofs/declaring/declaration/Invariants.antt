use Rattle.std.proofs.Common.{◌∷◌, map, drop}
use Rattle.c_tree.specs.Syntax.{specifier_tree, initialized_tree, local_tree}
use Rattle.c_lower_rules.specs.Numbers.{LocalHasIntNumbers}
use Rattle.c_lower_exprs.specs.Contexts.{IsWithin}
use Rattle.c_lower_stmts.proofs.Locals.{LocalsSoFar}
use Rattle.c_lower_stmts.proofs.declaring.declaration.Given as goal

abbrev pub invariant-loop-other : goal.invariant-loop-other
invariant-loop-other l =
    IsWithin l.fn.context l.context
    × (LocalHasIntNumbers (local_tree l.fn.one)
    → LocalsSoFar (specifier_tree l.fn.one.specifier) l.fn.context l.line l.fn.locals
    (initialized_tree l.fn.one.declarators.first ∷ map initialized_tree l.fn.one.declarators.others.items)
    (map initialized_tree (drop l.other-index l.other-items)) l.fn.out l.context l.count l.out)
