use Rattle.std.proofs.Common.{sym, ap}
use Rattle.c_tree.specs.declared.items.Item.{Item}
use Rattle.c_tree.specs.Syntax.{item_tree}
use Rattle.c_lower.specs.Building.{item_part}
use Rattle.c_lower.proofs.Adding.{nothing, same}
use Rattle.c_lower.proofs.items.item.Goals as goal

pub returns-in-TypedefAlias-clause-built : goal.returns-in-TypedefAlias-clause-built
returns-in-TypedefAlias-clause-built c =
    same (nothing c.args.built.now) _
    (ap (λ (i : Item). item_part c.args.context.now.env.tables c.args.file.now (item_tree i)) (sym c.in-TypedefAlias.is))

pub returns-in-Prototype-clause-built : goal.returns-in-Prototype-clause-built
returns-in-Prototype-clause-built c =
    same (nothing c.args.built.now) _
    (ap (λ (i : Item). item_part c.args.context.now.env.tables c.args.file.now (item_tree i)) (sym c.in-Prototype.is))
