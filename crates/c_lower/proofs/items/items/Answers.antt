use Rattle.std.proofs.Common.{◌<◌, ◌≤◌, List, length, map, refl, ap, ◌∙◌, rules}
use Rattle.std.proofs.lemmas.List.{at_drop_all}
use Rattle.c_types_rules.specs.Tables.{Tables}
use Rattle.c_lower_rules.specs.Numbers.{ItemHasIntNumbers}
use Rattle.c_tree.specs.declared.items.Item.{Item}
use Rattle.c_tree.specs.Syntax.{item_tree}
use Rattle.c_lower.specs.Building.{item_part, items_part}
use Rattle.c_lower.proofs.Adding.{turned, over, same}
use Rattle.c_lower.proofs.Files.{at_map}
use Rattle.c_lower.proofs.items.items.Goals as goal

pub item-requires : goal.item-requires
item-requires c =
    let within : c.loop-one.one-index < length c.args.ones.now = search rules in
    at_map ItemHasIntNumbers item_tree c.args.ones.now c.loop-one.one-index c.one-item.result within c.one-item.is c.requires

pub loop-one-preserved : goal.loop-one-preserved
loop-one-preserved c =
    let within : c.loop-one.one-index < length c.args.ones.now = search rules in
    let all = c.args.context.now.env.tables in
    let file = c.args.file.now in
    let here = item_tree c.one-item.result in
    let found =
    same c.in_ok-item.ensures.built (item_part all file here) (ap (λ (t : Tables). item_part t file here) c.loop-one.invariant.tables) in
    record {
      built =
          turned (λ (xs : List Item). items_part all file (map item_tree xs)) (λ (one : Item). item_part all file (item_tree one))
          (λ one xs. refl)
          c.args.ones.now c.loop-one.one-index c.one-item.result within c.one-item.is c.loop-one.invariant.built found;
      tables = c.in_ok-item.ensures.tables ∙ c.loop-one.invariant.tables;
    }

pub returns-clause-built : goal.returns-clause-built
returns-clause-built c =
    let past : length c.args.ones.now ≤ c.loop-one.one-index = search rules in
    over c.loop-one.invariant.built
    (at_drop_all
    (λ (xs : List Item). items_part c.args.context.now.env.tables c.args.file.now
    (map item_tree xs)) c.args.ones.now c.loop-one.one-index past)
