use Rattle.std.proofs.Common.{sym}
use Rattle.sym_text.specs.Reading.{linked}
use Rattle.sym_text.proofs.WordLaws.{word_got, word_stopped}
use Rattle.sym_text.proofs.cells.read_linked.Goals as goal

pub returns-then-is_linked-clause-ok : goal.returns-then-is_linked-clause-ok
returns-then-is_linked-clause-ok c =
    word_got (linked c.args.structs.now) c.args.text.now _ _ c.front_name.ensures.name c.front_name.ensures.rest
    (sym c.if-is_linked.ensures)

pub returns-else-is_linked-clause-err : goal.returns-else-is_linked-clause-err
returns-else-is_linked-clause-err c =
    word_stopped (linked c.args.structs.now) c.args.text.now _ _ c.reach_linked.result c.front_name.ensures.name
    (sym c.if-is_linked.ensures) c.reach_linked.ensures.value c.refused_behind.ensures
