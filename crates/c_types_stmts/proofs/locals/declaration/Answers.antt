use Rattle.std.proofs.Common.{Bool, cond, ◌∷◌, Result, Ok, Err, OnOk, sym, ap, ◌∙◌}
use Rattle.c_types_rules.specs.Scopes.{specifier_refusals_in}
use Rattle.c_types_rules.specs.Statements.{nothing_found, refuses, ◌⊹◌, locals}
use Rattle.c_tree.specs.Syntax.{local_tree}
use Rattle.c_types_stmts.proofs.Adding.{nothing, refused, then, same, ends, ends_same}
use Rattle.c_types_stmts.proofs.locals.declaration.Goals as goal

always : {T E : Type 0} (r : Result T E) (P : Type 0) → P → OnOk r P
always (Ok x) P p = p
always (Err e) P p = tt

pub returns-then-hidden-clause-found : goal.returns-then-hidden-clause-found
returns-then-hidden-clause-found c =
    let l = local_tree c.args.one.now in
    let all = specifier_refusals_in c.args.env.now l.specifier in
    let first = refused all c.args.found.now c.specifier_refusals_in.new.first c.specifier_refusals_in.ensures in
    always c.unchecked_locals.result _
    (same (then first (nothing _)) _
    (ap (λ (b : Bool). refuses all ⊹ (cond b nothing_found (locals c.args.env.now l.specifier (l.first ∷ l.others))))
    (sym c.if-hidden.true ∙ c.is_hidden-hidden.ensures)))

pub returns-else-hidden-clause-found : goal.returns-else-hidden-clause-found
returns-else-hidden-clause-found c =
    let r = c.checked_locals.result in
    let l = local_tree c.args.one.now in
    let all = specifier_refusals_in c.args.env.now l.specifier in
    let first = refused all c.args.found.now c.specifier_refusals_in.new.first c.specifier_refusals_in.ensures in
    ends r _ _ first (ends_same r _ _ _ _ c.checked_locals.ensures.found
    (ap (λ (b : Bool). cond b nothing_found (locals c.args.env.now l.specifier (l.first ∷ l.others)))
    (sym c.if-hidden.false ∙ c.is_hidden-hidden.ensures)))
