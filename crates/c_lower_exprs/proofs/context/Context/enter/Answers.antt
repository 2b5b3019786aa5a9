use Rattle.std.proofs.Common.{◌≡◌, length, sym, ap, ◌∙◌, rules}
use Rattle.c_lower_rules.specs.Contexts.{Context}
use Rattle.c_lower_exprs.proofs.Stacking.{length-stacked}
use Rattle.c_lower_exprs.proofs.context.Context.enter.Goals as goal

pub returns-clause-bound : goal.returns-clause-bound
returns-clause-bound c =
    let kept : c.len-bound.result ≡ length c.self.inside.bound = search rules in
    kept ∙ sym (length-stacked c.self.inside.bound) ∙ ap (λ (x : Context). length x.bound) c.self.view_is
