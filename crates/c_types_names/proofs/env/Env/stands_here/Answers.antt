use Rattle.std.proofs.Common.{◌≡◌, true, false, is_some, Option, Some, None, drop, refl, ap, ◌∙◌}
use Rattle.c_types_rules.specs.Scopes.{Env, Variable, variable_in, stands_here}
use Rattle.c_types_names.specs.Seen.{stacked}
use Rattle.c_types_names.proofs.env.Env.stands_here.Goals as goal

stands : (o : Option Variable) → is_some o ≡ (elim o [ None ↦ false | Some found ↦ true ])
stands None = refl
stands (Some found) = refl

pub returns : goal.returns
returns c =
    c.has_from.ensures
    ∙ stands (variable_in (stacked (drop c.self.inside.begin c.self.inside.variables)) c.args.name.now)
    ∙ ap (λ (e : Env). stands_here e c.args.name.now) c.self.view_is
