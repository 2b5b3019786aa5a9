use Rattle.std.proofs.Common.{◌<◌, ◌≤◌, ◌∷◌, ◌++◌, List, length, map, refl, rules}
use Rattle.c_types_rules.specs.Tables.{specifier_refusals}
use Rattle.c_types_rules.specs.Items.{declarator_refusals, lines_refusals}
use Rattle.c_tree.specs.declared.names.FieldDecl.{FieldDecl}
use Rattle.c_tree.specs.Syntax.{fields_tree}
use Rattle.c_types.proofs.RefusalsInTurn.{looped, ended}
use Rattle.c_types.proofs.structures.lines_refusals.Goals as goal

pub loop-line-preserved : goal.loop-line-preserved
loop-line-preserved c =
    let within : c.loop-line.line-index < length c.args.lines.now = search rules in
    let t = c.args.tables.now in
    looped (λ (xs : List FieldDecl). lines_refusals t (map fields_tree xs))
    (λ (x : FieldDecl). specifier_refusals t (fields_tree x).specifier
    ++ declarator_refusals (fields_tree x).specifier ((fields_tree x).first ∷ (fields_tree x).others)) (λ x xs. refl)
    c.args.lines.now c.loop-line.line-index c.line-item.result within c.line-item.is c.loop-line.first c.line_refusals.new.first _
    c.line_refusals.ensures c.loop-line.invariant

pub returns : goal.returns
returns c =
    let past : length c.args.lines.now ≤ c.loop-line.line-index = search rules in
    let t = c.args.tables.now in
    ended (λ (xs : List FieldDecl). lines_refusals t (map fields_tree xs))
    (λ (x : FieldDecl). specifier_refusals t (fields_tree x).specifier
    ++ declarator_refusals (fields_tree x).specifier ((fields_tree x).first ∷ (fields_tree x).others)) (λ x xs. refl)
    c.args.lines.now c.loop-line.line-index past refl _ _ c.loop-line.invariant
