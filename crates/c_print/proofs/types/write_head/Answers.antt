use Rattle.c_print.proofs.Rows.{then, ends}
use Rattle.c_print.proofs.types.write_head.Goals as goal

pub returns : goal.returns
returns c =
    ends _ _ c.write_word-2.result
    (then c.in_ok-write_specifier.ensures
    (then c.in_ok-write_declarator.ensures (then c.in_ok-write_word.ensures c.in_ok-write_params.ensures))) c.write_word-2.ensures
