use Rattle.std.proofs.Common.{◌+◌, min, option_map, ap, ◌∙◌, subst}
use Rattle.c_tree.specs.Syntax.{expr_tree, specifier_tree, initialized_tree}
use Rattle.c_types_rules.specs.Tables.{object_kind}
use Rattle.c_types_names.specs.Seen.{kind_seen, type_seen}
use Rattle.c_lower_rules.specs.Contexts.{Context}
use Rattle.c_lower_rules.specs.Statements.{initial}
use Rattle.c_lower_exprs.specs.Contexts.{on_line}
use Rattle.c_lower_stmts.specs.Simples.{EmitsPiece}
use Rattle.c_lower_stmts.proofs.Locals.{local_declared}
use Rattle.c_lower_stmts.proofs.WithinScope.{within_added}
use Rattle.c_lower_stmts.proofs.declaring.local.Goals as goal

pub returns-clause-within : goal.returns-clause-within
returns-clause-within c =
    within_added c.args.context.now c.add_local.new.self c.args.one.now.declarator.name.text (kind_seen c.object_kind-kind.result)
    c.saturating_add-to.result c.in_ok-add_local.ensures

pub returns-clause-declared : goal.returns-clause-declared
returns-clause-declared c = λ numbers.
    let s = specifier_tree c.args.specifier.now in
    let one = c.args.one.now in
    let behind = c.add_local.new.self in
    local_declared c.args.context.now behind c.args.line c.args.locals c.saturating_add-to.result c.saturating_add.result
    s (initialized_tree one)
    (kind_seen c.object_kind-kind.result)
    c.args.out.now c.initial.new.out (c.object_kind-kind.ensures ∙ ap (λ t. object_kind t s one.declarator.stars) c.tables.ensures.program)
    (c.saturating_add-to.ensures ∙ ap (λ f. min (f + c.args.locals) 4294967295) c.first_local.ensures) c.in_ok-add_local.ensures
    (subst (λ k. EmitsPiece
    (initial (on_line behind c.args.line) c.saturating_add-to.result k (option_map expr_tree one.value)) behind.first_temp
    c.args.out.now c.initial.new.out)
    c.known.ensures
    (subst (λ (site : Context). EmitsPiece
    (initial site c.saturating_add-to.result (type_seen c.known.result) (option_map expr_tree one.value)) site.first_temp
    c.args.out.now c.initial.new.out) c.on.ensures (c.in_ok-initial.ensures numbers))) c.saturating_add.ensures
