use Rattle.c_print.proofs.Rows.{then, ends}
use Rattle.c_print.proofs.expressions.write_cast.Goals as goal

pub returns-in_ok-write_word-in-Some-2 : goal.returns-in_ok-write_word-in-Some-2
returns-in_ok-write_word-in-Some-2 c =
    rw c.in-Some.is
    (ends _ _ c.write_word-in-Some-2.result
    (then c.in_ok-write_word-in-Some.ensures
    (then c.in_ok-write_specifier-in-Some.ensures c.in_ok-write_word-in-Some-2.ensures)) c.write_word-in-Some-2.ensures)
