use Rattle.std.proofs.Common.{map, drop}
use Rattle.c_grammar.specs.Printing.{print_more, print_declarator}
use Rattle.c_tree.specs.Syntax.{declarator_tree}
use Rattle.c_print.specs.Writing.{PrintsUpTo}
use Rattle.c_print.proofs.types.write_more_declarators.Given as goal

abbrev pub invariant-loop-declarator : goal.invariant-loop-declarator
invariant-loop-declarator l =
    PrintsUpTo (print_more print_declarator (map declarator_tree (drop l.declarator-index l.others)))
    (print_more print_declarator (map declarator_tree l.others)) l.initial.text.items l.text.items
