use Rattle.c_print.proofs.Rows.{then, ends}
use Rattle.c_print.proofs.expressions.write_in_parens.Goals as goal

pub returns : goal.returns
returns c =
    ends _ _ c.write_word-3.result
    (then c.in_ok-write_word.ensures (then c.in_ok-write_word-2.ensures c.in_ok-write_expr.ensures)) c.write_word-3.ensures
