use Rattle.std.proofs.Common.{◌≡◌, ◌<◌, ◌≤◌, List, length, map, sym, ap, ◌∙◌, rules}
use Rattle.std.proofs.lemmas.List.{at_drop_all}
use Rattle.c_types_rules.specs.Tables.{joined, declared_by, items_of}
use Rattle.c_tree.specs.declared.items.Item.{Item}
use Rattle.c_tree.specs.declared.items.Unit.{Unit}
use Rattle.c_tree.specs.Syntax.{item_tree, unit_tree}
use Rattle.c_types.proofs.JoinedTables.{joined-none}
use Rattle.c_types.proofs.Files.{tables_next}
use Rattle.c_types.proofs.checker.declared.Goals as goal

pub loop-unit-preserved : goal.loop-unit-preserved
loop-unit-preserved c =
    let within : c.loop-unit.unit-index < length c.args.units.now = search rules in
    let goes : c.declare_all.new.self ≡ joined c.loop-unit.tables (declared_by (unit_tree c.unit-item.result).items) =
    c.in_ok-declare_all.ensures
    ∙ ap (λ (xs : List Item). joined c.loop-unit.tables (declared_by (map item_tree xs))) c.as_slice.ensures.value in
    tables_next c.loop-unit.tables c.loop-unit.tables c.declare_all.new.self c.args.units.now c.loop-unit.unit-index c.unit-item.result
    within c.unit-item.is goes _ c.loop-unit.invariant

pub returns : goal.returns
returns c =
    let past : length c.args.units.now ≤ c.loop-unit.unit-index = search rules in
    sym (joined-none c.loop-unit.tables)
    ∙ sym (at_drop_all
    (λ (xs : List Unit). joined c.loop-unit.tables
    (declared_by (items_of (map unit_tree xs)))) c.args.units.now c.loop-unit.unit-index past)
    ∙ c.loop-unit.invariant
