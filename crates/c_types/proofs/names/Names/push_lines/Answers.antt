use Rattle.std.proofs.Common.{◌<◌, ◌∷◌, List, length, map, refl, rules}
use Rattle.c_grammar.specs.Trees.{Declarator}
use Rattle.c_types_rules.specs.Items.{field_names}
use Rattle.c_tree.specs.declared.names.FieldDecl.{FieldDecl}
use Rattle.c_tree.specs.Syntax.{fields_tree}
use Rattle.c_types.proofs.RefusalsInTurn.{appended}
use Rattle.c_types.proofs.names.Names.push_lines.Goals as goal

pub loop-line-preserved : goal.loop-line-preserved
loop-line-preserved c =
    let within : c.loop-line.line-index < length c.args.lines.now = search rules in
    appended (λ (xs : List FieldDecl). field_names (map fields_tree xs))
    (λ (x : FieldDecl). map (λ (one : Declarator). one.name) ((fields_tree x).first ∷ (fields_tree x).others)) (λ x xs. refl)
    c.args.lines.now c.loop-line.line-index c.line-item.result within c.line-item.is c.loop-line.self c.push_line.new.self _
    c.in_ok-push_line.ensures c.loop-line.invariant
