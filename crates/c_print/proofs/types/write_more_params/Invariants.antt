use Rattle.std.proofs.Common.{map, drop}
use Rattle.c_grammar.specs.Printing.{print_more, print_param}
use Rattle.c_tree.specs.Syntax.{param_tree}
use Rattle.c_print.specs.Writing.{PrintsUpTo}
use Rattle.c_print.proofs.types.write_more_params.Given as goal

abbrev pub invariant-loop-param : goal.invariant-loop-param
invariant-loop-param l =
    PrintsUpTo (print_more print_param (map param_tree (drop l.param-index l.others)))
    (print_more print_param (map param_tree l.others)) l.initial.text.items l.text.items
