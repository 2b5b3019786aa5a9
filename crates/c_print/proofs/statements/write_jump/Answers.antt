use Rattle.c_print.proofs.Rows.{ends}
use Rattle.c_print.proofs.statements.write_jump.Goals as goal

pub returns : goal.returns
returns c = ends _ _ c.write_word-2.result c.in_ok-write_word.ensures c.write_word-2.ensures
