use Rattle.std.proofs.Common.{map}
use Rattle.c_tree.specs.NonEmpty.{left}
use Rattle.c_tree.specs.Syntax.{initialized_tree, local_tree}
use Rattle.c_lower_sizes.specs.Sizes.{locals_size, declaration_size}
use Rattle.c_lower_sizes.proofs.Adding.{IsSumUpTo}
use Rattle.c_lower_sizes.proofs.simples.declaration.Given as goal

abbrev pub invariant-loop-declarator : goal.invariant-loop-declarator
invariant-loop-declarator l =
    IsSumUpTo (locals_size (map initialized_tree (left l.declarator-iterator))) (declaration_size (local_tree l.one)) l.total
