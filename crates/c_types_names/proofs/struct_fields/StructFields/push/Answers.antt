use Rattle.std.proofs.Common.{◌≡◌, [], ◌∷◌, ◌++◌, length, map, sym, ap, ◌∙◌, rules}
use Rattle.std.proofs.lemmas.List.{length-map}
use Rattle.std.specs.Str.{bytes_eq}
use Rattle.c_types_names.specs.NameMap.{or_first}
use Rattle.c_types_names.specs.StructFields.{declared_seen, first_place}
use Rattle.c_types_names.proofs.Noting.{seen_behind}
use Rattle.c_types_names.proofs.FieldPlaces.{one_more_place}
use Rattle.c_types_names.proofs.struct_fields.StructFields.push.Goals as goal

pub invariant_of-self-2 : goal.invariant_of-self-2
invariant_of-self-2 c = λ n.
    let before = c.self.inside.all.items in
    let seen = map declared_seen before in
    let has_name = bytes_eq c.args.one.declarator.now.name.text n in
    let items : c.push.new.self.items ≡ before ++ c.args.one ∷ [] = search rules in
    let len : c.len-place.result ≡ length before = search rules in
    c.in_ok-add_first.ensures.thing n
    ∙ ap (λ found. or_first found has_name c.len-place.result) (c.self.invariant n)
    ∙ ap (or_first (first_place seen n) has_name) (len ∙ sym (length-map before declared_seen))
    ∙ one_more_place seen (declared_seen c.args.one) n
    ∙ ap (λ xs. first_place xs n) (seen_behind declared_seen before c.args.one)
    ∙ ap (λ xs. first_place (map declared_seen xs) n) (sym items)
