use Rattle.std.proofs.Common.{map, drop}
use Rattle.c_grammar.specs.Printing.{print_links}
use Rattle.c_tree.specs.Syntax.{expr_tree, links_tree}
use Rattle.c_print.specs.Writing.{PrintsUpTo}
use Rattle.c_print.proofs.Arguments.{print_args_from}
use Rattle.c_print.proofs.expressions.+write.Given as goal

abbrev pub invariant-write_links-loop-link : goal.invariant-write_links-loop-link
invariant-write_links-loop-link l =
    PrintsUpTo (print_links (links_tree (drop l.link-index l.link-items)))
    (print_links (links_tree l.link-items)) l.initial.text.items l.text.items

-- the arguments from this place on
abbrev pub invariant-write_args-loop-place : goal.invariant-write_args-loop-place
invariant-write_args-loop-place l =
    PrintsUpTo (print_args_from l.place (map expr_tree (drop l.place l.arg-items)))
    (print_args_from 0 (map expr_tree l.arg-items)) l.initial.text.items l.text.items
