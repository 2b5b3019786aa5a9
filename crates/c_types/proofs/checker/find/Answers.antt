use Rattle.std.proofs.Common.{◌≡◌, ◌<◌, ◌≤◌, List, length, map, sym, ap, ◌∙◌, rules}
use Rattle.std.proofs.lemmas.List.{at_drop_all}
use Rattle.c_types_rules.specs.Tables.{Tables, joined, declared_by, no_tables, items_of}
use Rattle.c_types_rules.specs.Programs.{items, files_refusals}
use Rattle.c_tree.specs.declared.items.Item.{Item}
use Rattle.c_tree.specs.declared.items.Unit.{Unit}
use Rattle.c_tree.specs.Syntax.{item_tree, unit_tree}
use Rattle.c_types_exprs.specs.Listing.{with_kinds}
use Rattle.c_types_exprs.proofs.ListedKinds.{with_none}
use Rattle.c_types_stmts.proofs.Adding.{same}
use Rattle.c_types_names.specs.FirstRefusal.{first_with}
use Rattle.c_types_names.proofs.FirstWith.{first_with-nil, first_with-is}
use Rattle.c_types.proofs.Files.{refusal_next, kinds_next}
use Rattle.c_types.proofs.checker.find.Goals as goal

pub loop-place-preserved : goal.loop-place-preserved
loop-place-preserved c =
    let within : c.loop-place.place < length c.args.units.now = search rules in
    let all = c.args.env.now.tables in
    let before = c.loop-place.before in
    let one = c.index-units-place.result in
    let file = unit_tree one in
    let goes : c.items.new.before ≡ joined before (declared_by file.items) =
    c.in_ok-items.ensures.before ∙ ap (λ (xs : List Item). joined before (declared_by (map item_tree xs))) c.as_slice.ensures.value in
    let adds = same c.in_ok-items.ensures.found (items all before file.items)
    (ap (λ (t : Tables). items t before (map item_tree c.as_slice.result.now)) c.loop-place.invariant.tables
    ∙ ap (λ (xs : List Item). items all before (map item_tree xs)) c.as_slice.ensures.value) in
    record {
      refusal = refusal_next all before c.items.new.before c.args.units.now c.loop-place.place one within c.index-units-place.is goes
          c.loop-place.found.first.found c.loop-place.found.kinds c.items.new.found adds _ c.loop-place.invariant.refusal;
      kinds = kinds_next all before c.items.new.before c.args.units.now c.loop-place.place one within c.index-units-place.is goes
          _ c.loop-place.found.kinds c.items.new.found adds _ c.loop-place.invariant.kinds;
      tables = c.in_ok-items.ensures.tables ∙ c.loop-place.invariant.tables;
    }

pub returns-clause-refusal : goal.returns-clause-refusal
returns-clause-refusal c =
    let past : length c.args.units.now ≤ c.loop-place.place = search rules in
    sym (first_with-nil c.loop-place.found.first.found)
    ∙ sym (at_drop_all
    (λ (xs : List Unit). first_with c.loop-place.found.first.found
    (files_refusals c.args.env.now.tables c.loop-place.before c.loop-place.place
    (map unit_tree xs))) c.args.units.now c.loop-place.place past)
    ∙ c.loop-place.invariant.refusal
    ∙ first_with-is (files_refusals c.args.env.now.tables no_tables 0 (map unit_tree c.args.units.now))

pub returns-clause-kinds : goal.returns-clause-kinds
returns-clause-kinds c =
    let past : length c.args.units.now ≤ c.loop-place.place = search rules in
    sym (with_none c.loop-place.found.kinds)
    ∙ sym (at_drop_all
    (λ (xs : List Unit). with_kinds c.loop-place.found.kinds
    (items c.args.env.now.tables c.loop-place.before (items_of (map unit_tree xs))).kinds) c.args.units.now c.loop-place.place past)
    ∙ c.loop-place.invariant.kinds
