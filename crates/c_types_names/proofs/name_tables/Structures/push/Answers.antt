use Rattle.std.proofs.Common.{◌≡◌, [], ◌∷◌, ◌++◌, map, option_map, refl, sym, ap, ◌∙◌, rules}
use Rattle.std.specs.Str.{bytes_eq}
use Rattle.c_types_rules.specs.Tables.{structure_in}
use Rattle.c_types_names.specs.NameMap.{named, or_first}
use Rattle.c_types_names.specs.NameTables.{the_structure, its_fields}
use Rattle.c_types_names.specs.Seen.{structure_seen}
use Rattle.c_types_names.specs.StructFields.{fields_of}
use Rattle.c_types_names.specs.declared.name_tables.FirstStructure.{FirstStructure}
use Rattle.c_types_names.proofs.Fields.{more_fields}
use Rattle.c_types_names.proofs.Noting.{one_more, over, seen_behind}
use Rattle.c_types_names.proofs.name_tables.Structures.push.Goals as goal

pub invariant_of-self-2 : goal.invariant_of-self-2
invariant_of-self-2 c =
    let all = c.self.inside.all.items in
    let one = structure_seen c.args.one in
    let kept : FirstStructure = record { structure = c.args.one; fields = c.push_lines.new.self } in
    let fields : c.push_lines.new.self ≡ fields_of one = search rules in
    let items : c.push.new.self.items ≡ all ++ c.args.one ∷ [] = search rules in (
      λ n.
          one_more structure_seen (λ y. bytes_eq y.tag n) (λ ys. structure_in ys n) refl (λ y ys. refl) _ _ _ c.args.one
          (c.self.invariant.0 n)
          (ap (option_map the_structure) (c.in_ok-add_first.ensures.thing n)
          ∙ over the_structure (named c.self.inside.first n) (bytes_eq one.tag n) kept)
          ∙ ap (λ xs. structure_in (map structure_seen xs) n) (sym items),
      λ n.
          ap (option_map its_fields) (c.in_ok-add_first.ensures.thing n)
          ∙ over its_fields (named c.self.inside.first n) (bytes_eq one.tag n) kept
          ∙ ap (λ o. or_first o (bytes_eq one.tag n) kept.fields) (c.self.invariant.1 n)
          ∙ ap (λ known. or_first (option_map fields_of (structure_in (map structure_seen all) n)) (bytes_eq one.tag n) known) fields
          ∙ more_fields (map structure_seen all) one n
          ∙ ap (λ xs. option_map fields_of (structure_in xs n))
          (seen_behind structure_seen all c.args.one ∙ ap (map structure_seen) (sym items)),
    )
