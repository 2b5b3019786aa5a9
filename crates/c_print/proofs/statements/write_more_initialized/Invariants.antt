use Rattle.std.proofs.Common.{map, drop}
use Rattle.c_grammar.specs.Printing.{print_more, print_initialized}
use Rattle.c_tree.specs.Syntax.{initialized_tree}
use Rattle.c_print.specs.Writing.{PrintsUpTo}
use Rattle.c_print.proofs.statements.write_more_initialized.Given as goal

abbrev pub invariant-loop-one : goal.invariant-loop-one
invariant-loop-one l =
    PrintsUpTo (print_more print_initialized (map initialized_tree (drop l.one-index l.others)))
    (print_more print_initialized (map initialized_tree l.others)) l.initial.text.items l.text.items
