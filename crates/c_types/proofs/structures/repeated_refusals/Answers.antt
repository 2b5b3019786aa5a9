use Rattle.std.proofs.Common.{◌≡◌, Bool, Option, List, [], map, sym, ap, ◌∙◌}
use Rattle.std.specs.Option.{option_copied}
use Rattle.c_types_rules.specs.Types.{unless, DIFFERS}
use Rattle.c_grammar.specs.Trees.{Fields}
use Rattle.c_types_rules.specs.Tables.{structure_in, field_kinds}
use Rattle.c_types_rules.specs.Items.{same_fields}
use Rattle.c_tree.specs.Syntax.{ident_tree, fields_tree}
use Rattle.c_types_names.specs.StructFields.{DeclaredTree, kind_of_declared}
use Rattle.c_types_names.proofs.FirstRefusals.{nothing, same}
use Rattle.c_types.proofs.FieldLines.{repeated_by, repeated_is}
use Rattle.c_types.proofs.structures.repeated_refusals.Goals as goal

pub returns-in-None : goal.returns-in-None
returns-in-None c =
    let tag = ident_tree c.args.tag.now in
    let lines = map fields_tree c.args.lines.now.items in
    same _ _ [] _ (nothing c.args.first.now)
    (ap (λ (fields : Option (List DeclaredTree)). repeated_by c.args.tables.now fields tag lines)
    (ap option_copied (sym c.in-None.is) ∙ c.fields.ensures)
    ∙ repeated_is c.args.tables.now (structure_in c.args.before.now.structures tag.text) tag lines)

pub returns-in_ok-same-in-Some : goal.returns-in_ok-same-in-Some
returns-in_ok-same-in-Some c =
    let tables = c.args.tables.now in
    let tag = ident_tree c.args.tag.now in
    let lines = map fields_tree c.args.lines.now.items in
    let there : map fields_tree c.as_slice.result.now ≡ lines = ap (map fields_tree) c.as_slice.ensures.value in
    same _ _ (unless c.in_ok-same-in-Some.same tag.place DIFFERS) _ c.unless.ensures
    (ap (λ (b : Bool). unless b tag.place DIFFERS)
    (c.in_ok-same-in-Some.ensures
    ∙ ap (λ (l : List Fields). same_fields (map (kind_of_declared tables) c.in-Some.before.now) (field_kinds tables l)) there)
    ∙ ap (λ (fields : Option (List DeclaredTree)). repeated_by tables fields tag lines)
    (ap option_copied (sym c.in-Some.is) ∙ c.fields.ensures)
    ∙ repeated_is tables (structure_in c.args.before.now.structures tag.text) tag lines)
