use Rattle.std.proofs.Common.{◌≡◌, ◌-◌, ◌≤◌, List, length, map, drop, length-drop, ◌∙◌, arith, rules}
use Rattle.std.proofs.lemmas.List.{length-map, at_drop_all}
use Rattle.c_types_rules.specs.Items.{same_fields}
use Rattle.c_types_names.specs.declared.struct_fields.DeclaredField.{DeclaredField}
use Rattle.c_types_names.specs.Seen.{field_seen}
use Rattle.c_types_names.specs.StructFields.{declared_seen, kind_of_declared}
use Rattle.c_types.proofs.Sameness.{fields_left, ends_same}
use Rattle.c_types.proofs.fields.same_fields_of.Goals as goal

pub returns : goal.returns
returns c =
    let ones = c.args.ones.now in
    let others = c.args.others.now in
    let n = c.loop-place.place in
    let past : length ones ≤ n = search rules in
    let kinds = λ (list : List DeclaredField). map (kind_of_declared c.args.tables.now) (map declared_seen list) in
    let rest : length (map field_seen (drop n others)) ≡ length others - n = length-map (drop n others) field_seen ∙ length-drop n others in
    ends_same same_fields fields_left (kinds (drop n ones)) (map field_seen (drop n others)) (length ones) (length others) n
    (omega (arith, past, c.loop-place.auto.place-end))
    (at_drop_all kinds ones n past) rest _ c.loop-place.invariant
