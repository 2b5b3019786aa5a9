use Rattle.std.proofs.Common.{map, sym}
use Rattle.sym_text.proofs.WordLaws.{word_got, word_stopped}
use Rattle.sym_text.proofs.words.read_word.Goals as goal

pub returns-then-is_one_of-clause-ok : goal.returns-then-is_one_of-clause-ok
returns-then-is_one_of-clause-ok g c =
    word_got (map g.T.Named.name_of c.args.things.now) c.args.text.now _ _ c.front_name.ensures.name c.front_name.ensures.rest
    (sym c.if-is_one_of.ensures)

pub returns-else-is_one_of-clause-err : goal.returns-else-is_one_of-clause-err
returns-else-is_one_of-clause-err g c =
    word_stopped (map g.T.Named.name_of c.args.things.now) c.args.text.now _ _ c.reach.result c.front_name.ensures.name
    (sym c.if-is_one_of.ensures) c.reach.ensures.value c.refused_behind.ensures
