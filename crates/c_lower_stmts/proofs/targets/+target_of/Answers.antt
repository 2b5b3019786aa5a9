use Rattle.std.proofs.Common.{◌≡◌, sym, ap, ◌∙◌, subst, rules}
use Rattle.c_tree.specs.Syntax.{expr_tree}
use Rattle.c_lower_stmts.specs.Targets.{IsTarget}
use Rattle.c_tree.proofs.Trees.{paren_is}
use Rattle.c_lower_stmts.proofs.targets.+target_of.Goals as goal

pub returns-in-Paren : goal.returns-in-Paren
returns-in-Paren t c =
    let m = c.in-Paren in
    let inner : m.inner.value ≡ c.deref.result.now = search rules in
    subst (λ e. IsTarget c.args.site.now e c.target_of.result) (sym (ap expr_tree m.is ∙ paren_is m.field-0 m.inner))
    (subst (λ e. IsTarget c.args.site.now (expr_tree e) c.target_of.result) (sym inner) c.target_of.ensures)
