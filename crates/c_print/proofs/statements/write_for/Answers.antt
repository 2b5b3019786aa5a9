use Rattle.c_print.proofs.Rows.{then, ends}
use Rattle.c_print.proofs.statements.write_for.Goals as goal

pub returns : goal.returns
returns c =
    ends _ _ c.write_word-5.result
    (then c.in_ok-write_word.ensures
    (then c.in_ok-write_word-2.ensures
    (then c.in_ok-write_init.ensures
    (then c.in_ok-write_word-3.ensures
    (then c.in_ok-write_optional_expr.ensures
    (then c.in_ok-write_word-4.ensures c.in_ok-write_optional_simple.ensures)))))) c.write_word-5.ensures
