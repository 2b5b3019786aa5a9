use Rattle.std.proofs.Common.{◌-◌}
use Rattle.c_grammar.specs.Printing.{print_stars}
use Rattle.c_print.specs.Writing.{PrintsUpTo}
use Rattle.c_print.proofs.words.write_stars.Given as goal

abbrev pub invariant-loop : goal.invariant-loop
invariant-loop l = PrintsUpTo (print_stars (l.stars - l.counter)) (print_stars l.stars) l.initial.text.items l.text.items
