use Rattle.std.proofs.Common.{◌<◌, ◌≤◌, List, length, map, refl, sym, ap, ◌∙◌, rules}
use Rattle.std.proofs.lemmas.List.{at_drop_all}
use Rattle.c_types_rules.specs.Tables.{Tables, joined, declares, declared_by}
use Rattle.c_types_rules.specs.Items.{item}
use Rattle.c_types_rules.specs.Programs.{items}
use Rattle.c_tree.specs.declared.items.Item.{Item}
use Rattle.c_tree.specs.Syntax.{item_tree}
use Rattle.c_types_stmts.proofs.Adding.{begun, turned, passed, over, same}
use Rattle.c_types.proofs.JoinedTables.{joined-assoc, joined-none}
use Rattle.c_types.proofs.items.items.Goals as goal

pub loop-one-init : goal.loop-one-init
loop-one-init c = record { found = begun _ _; before = refl; tables = refl }

pub loop-one-preserved : goal.loop-one-preserved
loop-one-preserved c =
    let within : c.loop-one.one-index < length c.args.ones.now = search rules in
    let all = c.args.env.now.tables in
    let next = λ (before : Tables) (one : Item). joined before (declares (item_tree one)) in
    let here = item_tree c.one-item.result in
    let found =
    same c.in_ok-item.ensures.found (item all c.loop-one.before here)
    (ap (λ (t : Tables). item t c.loop-one.before here) c.loop-one.invariant.tables) in
    record {
      found =
          turned (λ (before : Tables) (xs : List Item). items all before (map item_tree xs))
          (λ (before : Tables) (one : Item). item all before (item_tree one)) next (λ before one xs. refl)
          c.args.ones.now c.loop-one.one-index c.one-item.result within c.one-item.is c.loop-one.before c.declare.new.self
          c.in_ok-declare.ensures
          c.loop-one.invariant.found found;
      before =
          passed (λ (before : Tables) (xs : List Item). joined before (declared_by (map item_tree xs))) next
          (λ before one xs. sym (joined-assoc before (declares (item_tree one)) (declared_by (map item_tree xs))))
          c.args.ones.now c.loop-one.one-index c.one-item.result within c.one-item.is c.loop-one.before c.declare.new.self
          c.in_ok-declare.ensures
          _ c.loop-one.invariant.before;
      tables = c.in_ok-item.ensures.tables ∙ c.loop-one.invariant.tables;
    }

pub returns-clause-found : goal.returns-clause-found
returns-clause-found c =
    let past : length c.args.ones.now ≤ c.loop-one.one-index = search rules in
    over c.loop-one.invariant.found
    (at_drop_all
    (λ (xs : List Item). items c.args.env.now.tables c.loop-one.before (map item_tree xs)) c.args.ones.now c.loop-one.one-index past)

pub returns-clause-before : goal.returns-clause-before
returns-clause-before c =
    let past : length c.args.ones.now ≤ c.loop-one.one-index = search rules in
    sym (joined-none c.loop-one.before)
    ∙ sym (at_drop_all
    (λ (xs : List Item). joined c.loop-one.before (declared_by (map item_tree xs))) c.args.ones.now c.loop-one.one-index past)
    ∙ c.loop-one.invariant.before
