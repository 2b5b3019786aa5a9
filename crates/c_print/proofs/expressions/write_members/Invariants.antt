use Rattle.std.proofs.Common.{◌∷◌, codes, map}
use Rattle.c_grammar.specs.Printing.{print_each, print_name}
use Rattle.c_tree.specs.NonEmpty.{left, items}
use Rattle.c_tree.specs.Syntax.{ident_tree}
use Rattle.c_print.specs.Writing.{PrintsUpTo}
use Rattle.c_print.proofs.expressions.write_members.Given as goal

abbrev pub invariant-loop-field : goal.invariant-loop-field
invariant-loop-field l =
    PrintsUpTo (print_each (λ field rest. codes "->" ∷ print_name field rest) (map ident_tree (left l.field-iterator)))
    (print_each (λ field rest. codes "->" ∷ print_name field rest) (map ident_tree (items l.fields))) l.initial.text.items l.text.items
