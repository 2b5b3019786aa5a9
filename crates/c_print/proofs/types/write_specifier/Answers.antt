use Rattle.c_print.proofs.Rows.{ends}
use Rattle.c_print.proofs.types.write_specifier.Goals as goal

pub returns-in_ok-write_word-in-Struct : goal.returns-in_ok-write_word-in-Struct
returns-in_ok-write_word-in-Struct c =
    rw c.in-Struct.is (ends _ _ c.write_name.result c.in_ok-write_word-in-Struct.ensures c.write_name.ensures)
