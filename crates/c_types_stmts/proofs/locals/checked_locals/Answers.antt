use Rattle.std.proofs.Common.{List, map, sym, ap, ◌∙◌}
use Rattle.c_types_rules.specs.Scopes.{Env}
use Rattle.c_types_rules.specs.Statements.{◌⊹◌, local, locals, behind_locals}
use Rattle.c_tree.specs.declared.stmts.Initialized.{Initialized}
use Rattle.c_tree.specs.NonEmpty.{left}
use Rattle.c_tree.specs.Syntax.{specifier_tree, initialized_tree}
use Rattle.c_types_stmts.proofs.Adding.{turn, over}
use Rattle.c_types_stmts.proofs.locals.checked_locals.Goals as goal

pub loop-declarator-preserved : goal.loop-declarator-preserved
loop-declarator-preserved c =
    let env = c.loop-declarator.env in
    let s = specifier_tree c.args.one.now.specifier in
    let x = initialized_tree c.in-Some.declarator.now in
    let rest = map initialized_tree (left c.next.new.self) in
    let next = c.in_ok-local.ensures.env in
    record {
      found =
          turn (locals c.local.new.env s rest) c.loop-declarator.invariant.found c.in_ok-local.ensures.found
          (ap (λ (xs : List Initialized). locals env s (map initialized_tree xs)) c.in-Some.ensures.steps
          ∙ ap (λ (e : Env). local env s x ⊹ locals e s rest) (sym next));
      env =
          ap (λ (e : Env). behind_locals e s rest) next
          ∙ sym (ap (λ (xs : List Initialized). behind_locals env s (map initialized_tree xs)) c.in-Some.ensures.steps)
          ∙ c.loop-declarator.invariant.env;
    }

pub returns-clause-found : goal.returns-clause-found
returns-clause-found c =
    over c.loop-declarator.invariant.found
    (ap (λ (xs : List Initialized). locals c.loop-declarator.env (specifier_tree c.args.one.now.specifier)
    (map initialized_tree xs)) c.in-None.ensures.steps.0)
