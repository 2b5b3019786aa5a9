use Rattle.std.proofs.Common.{◌++◌, map, option_map, false, not, sym, ap}
use Rattle.c_types_rules.specs.Types.{unless, UNDECLARED, SECOND}
use Rattle.c_types_rules.specs.Tables.{is_defined, tag_or}
use Rattle.c_types_rules.specs.Statements.{refuses}
use Rattle.c_types_rules.specs.Items.{structure_refusals, alias_refusals, procedure_refusals, definitions, is_defined_before}
use Rattle.c_types_rules.specs.Items.{unnamed_refusals, listed, body, item}
use Rattle.c_tree.specs.declared.items.Item.{Item}
use Rattle.c_tree.specs.Syntax.{ident_tree, fields_tree, head_tree, block_tree, item_tree}
use Rattle.c_types_stmts.proofs.Adding.{refused, same, ends_same}
use Rattle.c_types.proofs.Defining.{refused_on, defined}
use Rattle.c_types.proofs.items.item.Goals as goal

pub returns-in-TypedefStruct-clause-found : goal.returns-in-TypedefStruct-clause-found
returns-in-TypedefStruct-clause-found c =
    let r = c.typedef_structure.result in
    let s = c.in-TypedefStruct in
    let all = c.args.env.now.tables in
    let before = c.args.before.now in
    let name = tag_or (option_map ident_tree s.tag) (ident_tree s.alias) in
    let refusals = structure_refusals all before name (map fields_tree s.fields.items) ++ alias_refusals before (ident_tree s.alias) name in
    ends_same r (refuses refusals) _ _ _
    (refused_on r refusals c.args.found.now c.typedef_structure.new.first
    (rw c.tables-in-TypedefStruct.ensures at c.typedef_structure.ensures))
    (ap (λ (i : Item). item all before (item_tree i)) (sym s.is))

pub returns-in-TypedefAlias-clause-found : goal.returns-in-TypedefAlias-clause-found
returns-in-TypedefAlias-clause-found c =
    let s = c.in-TypedefAlias in
    let all = c.args.env.now.tables in
    let before = c.args.before.now in
    let tag = ident_tree s.tag in
    same (refused
    (unless (is_defined all tag.text) tag.place UNDECLARED
    ++ alias_refusals before (ident_tree s.alias) tag) c.args.found.now c.typedef_alias.new.first
    (rw c.tables-in-TypedefAlias.ensures at c.typedef_alias.ensures)) _
    (ap (λ (i : Item). item all before (item_tree i)) (sym s.is))

pub returns-in_ok-defined_head-in-Definition-clause-found : goal.returns-in_ok-defined_head-in-Definition-clause-found
returns-in_ok-defined_head-in-Definition-clause-found c =
    let r = c.body.result in
    let s = c.in-Definition in
    let all = c.args.env.now.tables in
    let before = c.args.before.now in
    let head = head_tree s.head in
    ends_same r _ _ _ _
    (defined r (procedure_refusals all before (definitions false before.procedures) head)
    (unless (not (is_defined_before before head)) head.declarator.name.place SECOND) (unnamed_refusals (listed head.params))
    (body all head (block_tree s.block).body) c.args.found.now c.defined_head.new.first c.body.new.found
    (rw c.tables-in-Definition.ensures at c.in_ok-defined_head-in-Definition.ensures) c.body.ensures.found)
    (ap (λ (i : Item). item all before (item_tree i)) (sym s.is))
