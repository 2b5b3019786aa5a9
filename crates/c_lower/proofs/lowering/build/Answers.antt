use Rattle.std.proofs.Common.{◌<◌, ◌≤◌, List, length, map, sym, ap, ◌∙◌, subst, rules, arith, All}
use Rattle.c_types_rules.specs.Tables.{Tables}
use Rattle.c_lower_rules.specs.Numbers.{ItemHasIntNumbers, FileHasIntNumbers}
use Rattle.c_tree.specs.declared.items.Item.{Item}
use Rattle.c_tree.specs.Syntax.{item_tree, unit_tree}
use Rattle.c_lower.specs.Building.{items_part}
use Rattle.c_lower.proofs.Adding.{same}
use Rattle.c_lower.proofs.Files.{at_map, next_file, last_file, last_kept}
use Rattle.c_lower.proofs.lowering.build.Goals as goal

pub items-requires : goal.items-requires
items-requires c =
    let within : c.loop-place.place < length c.args.units.now = search rules in
    subst (λ (xs : List Item). All ItemHasIntNumbers (map item_tree xs)) (sym c.as_slice.ensures.value)
    (at_map FileHasIntNumbers unit_tree c.args.units.now c.loop-place.place c.index-units-place.result within c.index-units-place.is
    c.requires.numbers)

pub loop-place-preserved : goal.loop-place-preserved
loop-place-preserved c =
    let within : c.loop-place.place < length c.args.units.now = search rules in
    let all = c.args.context.now.env.tables in
    let one = c.index-units-place.result in
    let name = c.index-files-place.result in
    let adds = same c.in_ok-items.ensures.built (items_part all name (unit_tree one).items)
    (ap (λ (t : Tables). items_part t name (map item_tree c.as_slice.result.now)) c.loop-place.invariant.tables
    ∙ ap (λ (xs : List Item). items_part all name (map item_tree xs)) c.as_slice.ensures.value) in
    record {
      built =
          next_file all
          (map unit_tree c.args.units.now) c.args.files.now c.args.most c.args.units.now c.loop-place.place one within
          c.index-units-place.is name (omega (arith, within, c.requires.names)) c.index-files-place.is c.loop-place.built c.items.new.built
          c.loop-place.invariant.built adds;
      tables = c.in_ok-items.ensures.tables ∙ c.loop-place.invariant.tables;
    }

pub returns-clause-refusal : goal.returns-clause-refusal
returns-clause-refusal c =
    let past : length c.args.units.now ≤ c.loop-place.place = search rules in
    last_file c.args.context.now.env.tables (map unit_tree c.args.units.now) c.args.files.now c.args.most c.args.units.now
    c.loop-place.place _ c.loop-place.built past c.loop-place.invariant.built

pub returns-clause-procs : goal.returns-clause-procs
returns-clause-procs c none =
    let past : length c.args.units.now ≤ c.loop-place.place = search rules in
    last_kept c.args.context.now.env.tables (map unit_tree c.args.units.now) c.args.files.now c.args.most c.args.units.now
    c.loop-place.place c.loop-place.built past c.loop-place.invariant.built none
