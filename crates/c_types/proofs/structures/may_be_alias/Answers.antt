use Rattle.std.proofs.Common.{◌≡◌, Bool, true, false, ◌&&◌, not, Option, sym, ap, ◌∙◌}
use Rattle.c_types_rules.specs.Tables.{Alias, alias_in}
use Rattle.c_types_rules.specs.Items.{same_alias, is_procedure}
use Rattle.c_tree.specs.Syntax.{ident_tree}
use Rattle.c_types.proofs.structures.may_be_alias.Goals as goal

pub returns-then-same_alias : goal.returns-then-same_alias
returns-then-same_alias c =
    let tag = ident_tree c.args.tag.now in
    let name = ident_tree c.args.alias.now in
    let same : true ≡ same_alias (alias_in c.args.before.now.aliases name.text) tag =
    sym c.if-same_alias.true ∙ c.same_alias.ensures ∙ ap (λ (o : Option Alias). same_alias o tag) c.alias.ensures in
    ap not c.is_procedure.ensures ∙ ap (λ (b : Bool). b && not (is_procedure c.args.before.now name)) same

pub returns-else-same_alias : goal.returns-else-same_alias
returns-else-same_alias c =
    let tag = ident_tree c.args.tag.now in
    let name = ident_tree c.args.alias.now in
    let same : false ≡ same_alias (alias_in c.args.before.now.aliases name.text) tag =
    sym c.if-same_alias.false ∙ c.same_alias.ensures ∙ ap (λ (o : Option Alias). same_alias o tag) c.alias.ensures in
    c.if-same_alias.false ∙ ap (λ (b : Bool). b && not (is_procedure c.args.before.now name)) same
