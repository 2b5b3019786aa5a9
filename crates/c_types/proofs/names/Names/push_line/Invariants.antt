use Rattle.std.proofs.Common.{◌≡◌, ◌++◌, map}
use Rattle.c_grammar.specs.Trees.{Declarator}
use Rattle.c_tree.specs.NonEmpty.{left, items}
use Rattle.c_tree.specs.Syntax.{declarator_tree}
use Rattle.c_types.proofs.names.Names.push_line.Given as goal

abbrev pub invariant-loop-one : goal.invariant-loop-one
invariant-loop-one l =
    l.self ++ map (λ (one : Declarator). one.name) (map declarator_tree (left l.one-iterator))
    ≡ l.initial.self ++ map (λ (one : Declarator). one.name) (map declarator_tree (items l.line.declarators))
