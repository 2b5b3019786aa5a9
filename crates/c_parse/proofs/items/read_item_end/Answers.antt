use Rattle.c_tree.specs.Syntax.{head_tree}
use Rattle.c_parse.proofs.Nested.{end_stops}
use Rattle.c_parse.proofs.items.read_item_end.Goals as goal

pub returns-in_default-clause-value : goal.returns-in_default-clause-value
returns-in_default-clause-value c =
    let d = c.in_default in
    end_stops c.wrong.result c.args.levels
    (head_tree c.args.head) c.args.words.now c.first_class.result c.first_class.ensures c.wrong.ensures d.not-Semicolon d.not-OpenBrace
