use Rattle.c_parse.proofs.Nested.{item_stops, item_named}
use Rattle.c_parse.proofs.items.read_item.Goals as goal

pub returns-in_default-clause-value : goal.returns-in_default-clause-value
returns-in_default-clause-value c =
    let d = c.in_default in
    item_stops c.wrong.result c.args.levels c.args.words.now c.first_class.result c.first_class.ensures c.wrong.ensures d.not-Struct
    d.not-Typedef d.not-Int d.not-Void d.not-Name

pub returns-in_ok-alias-in-Name-clause-value : goal.returns-in_ok-alias-in-Name-clause-value
returns-in_ok-alias-in-Name-clause-value c =
    rw (item_named c.args.levels c.args.words.now _ _ c.in_ok-alias-in-Name.ensures.value) c.read_headed-in-Name.ensures.value
