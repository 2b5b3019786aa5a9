use Rattle.std.proofs.Common.{map, drop}
use Rattle.c_grammar.specs.Printing.{print_each, print_fields}
use Rattle.c_tree.specs.Syntax.{fields_tree}
use Rattle.c_print.specs.Writing.{PrintsUpTo}
use Rattle.c_print.proofs.types.write_lines.Given as goal

abbrev pub invariant-loop-line : goal.invariant-loop-line
invariant-loop-line l =
    PrintsUpTo (print_each print_fields (map fields_tree (drop l.line-index l.lines)))
    (print_each print_fields (map fields_tree l.lines)) l.initial.text.items l.text.items
