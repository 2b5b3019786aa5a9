use Rattle.c_print.proofs.Rows.{then, ends}
use Rattle.c_print.proofs.expressions.write_size_of.Goals as goal

pub returns : goal.returns
returns c =
    ends _ _ c.write_word-5.result
    (then c.in_ok-write_word.ensures
    (then c.in_ok-write_word-2.ensures
    (then c.in_ok-write_word-3.ensures (then c.in_ok-write_specifier.ensures c.in_ok-write_word-4.ensures)))) c.write_word-5.ensures
