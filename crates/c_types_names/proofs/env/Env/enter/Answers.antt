use Rattle.std.proofs.Common.{◌≡◌, length, sym, ap, ◌∙◌, rules}
use Rattle.c_types_rules.specs.Scopes.{Env, entered}
use Rattle.c_types_names.proofs.Stacking.{went_in, length_around}
use Rattle.c_types_names.proofs.env.Env.enter.Goals as goal

pub returns-clause-scopes : goal.returns-clause-scopes
returns-clause-scopes c =
    let end : c.len-self-inside.result ≡ length c.self.inside.variables = search rules in
    went_in c.self.inside.tables c.self.inside.begin c.self.inside.variables c.self.invariant c.len-self-inside.result end
    ∙ ap entered c.self.view_is

pub returns-clause-around : goal.returns-clause-around
returns-clause-around c =
    sym (length_around c.self.inside.tables c.self.inside.begin c.self.inside.variables c.self.invariant)
    ∙ ap (λ (e : Env). length e.scopes.around) c.self.view_is
