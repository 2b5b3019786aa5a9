use Rattle.std.proofs.Common.{◌++◌, map, ap}
use Rattle.c_grammar.specs.Trees.{Name}
use Rattle.c_types_rules.specs.Items.{structure_refusals, alias_refusals}
use Rattle.c_tree.specs.Syntax.{ident_tree, fields_tree}
use Rattle.c_types_names.proofs.FirstRefusals.{then, same}
use Rattle.c_types.proofs.items.typedef_structure.Goals as goal

pub returns-in-Err : goal.returns-in-Err
returns-in-Err c = tt

pub returns-in-Ok : goal.returns-in-Ok
returns-in-Ok c =
    same _ _ _ _ (then _ _ _ _ _ c.in-Ok.ensures c.alias_refusals.ensures)
    (ap (λ (n : Name). structure_refusals c.args.tables.now c.args.before.now n (map fields_tree c.args.lines.now.items)
    ++ alias_refusals c.args.before.now (ident_tree c.args.alias.now) n) c.tag_or-tag.ensures)
