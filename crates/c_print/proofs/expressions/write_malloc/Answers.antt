use Rattle.std.proofs.Common.{◌≡◌, Option, Some, None, ◌∷◌, codes, refl}
use Rattle.c_grammar.specs.Trees.{Specifier}
use Rattle.c_grammar.specs.Printing.{Texts, print_malloc, print_size_of}
use Rattle.c_print.specs.Writing.{print_cast}
use Rattle.c_print.proofs.Rows.{then, ends, same}
use Rattle.c_print.proofs.expressions.write_malloc.Goals as goal

by_cast : (as_type : Option Specifier) (allocated : Specifier) (behind : Texts)
    → print_cast as_type (codes "malloc" ∷ print_size_of allocated behind) ≡ print_malloc as_type allocated behind
by_cast None allocated behind = refl
by_cast (Some as_type) allocated behind = refl

pub returns : goal.returns
returns c =
    same _ _ _ _ c.write_size_of.result (by_cast _ _)
    (ends _ _ c.write_size_of.result (then c.in_ok-write_cast.ensures c.in_ok-write_word.ensures) c.write_size_of.ensures)
