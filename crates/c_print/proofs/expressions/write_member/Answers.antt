use Rattle.c_print.proofs.Rows.{ends}
use Rattle.c_print.proofs.expressions.write_member.Goals as goal

pub returns : goal.returns
returns c = ends _ _ c.write_name.result c.in_ok-write_word.ensures c.write_name.ensures
