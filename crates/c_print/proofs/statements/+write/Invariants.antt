use Rattle.std.proofs.Common.{drop}
use Rattle.c_grammar.specs.Printing.{print_stmts}
use Rattle.c_tree.specs.Syntax.{stmts_tree}
use Rattle.c_print.specs.Writing.{PrintsUpTo}
use Rattle.c_print.proofs.statements.+write.Given as goal

abbrev pub invariant-write_stmts-loop-stmt : goal.invariant-write_stmts-loop-stmt
invariant-write_stmts-loop-stmt l =
    PrintsUpTo (print_stmts (stmts_tree (drop l.stmt-index l.stmt-items)))
    (print_stmts (stmts_tree l.stmt-items)) l.initial.text.items l.text.items
