use Rattle.std.proofs.Common.{map, drop}
use Rattle.c_grammar.specs.Printing.{print_each, print_item}
use Rattle.c_tree.specs.Syntax.{item_tree}
use Rattle.c_print.specs.Writing.{PrintsUpTo}
use Rattle.c_print.proofs.items.write_items.Given as goal

abbrev pub invariant-loop-item : goal.invariant-loop-item
invariant-loop-item l =
    PrintsUpTo (print_each print_item (map item_tree (drop l.item-index l.items)))
    (print_each print_item (map item_tree l.items)) l.initial.text.items l.text.items
