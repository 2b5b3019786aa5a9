use Rattle.std.proofs.Common.{◌≡◌, ◌≤◌, length, sym, ap, ◌∙◌, arith}
use Rattle.std.proofs.lemmas.List.{length-take-le}
use Rattle.c_types_rules.specs.Scopes.{Env}
use Rattle.c_types_names.specs.Seen.{stacked}
use Rattle.c_types_names.proofs.Stacking.{left, length_around}
use Rattle.c_types_names.proofs.env.Env.leave.Goals as goal

pub invariant_of-self : goal.invariant_of-self
invariant_of-self c =
    let around : length c.args.self.now.scopes.around ≡ c.self.inside.begin =
    ap (λ (e : Env). length e.scopes.around) (sym c.self.view_is)
    ∙ length_around c.self.inside.tables c.self.inside.begin c.self.inside.variables c.self.invariant in
    let kept : length c.truncate.new.self ≡ c.self.inside.begin =
    ap length c.truncate.ensures ∙ length-take-le c.self.inside.begin c.self.inside.variables c.self.invariant in
    omega arith

pub returns : goal.returns
returns c here around is same =
    let outside : length c.args.self.now.scopes.around ≡ c.self.inside.begin =
    ap (λ (e : Env). length e.scopes.around) (sym c.self.view_is)
    ∙ length_around c.self.inside.tables c.self.inside.begin c.self.inside.variables c.self.invariant in
    let kept : length c.truncate.new.self ≡ c.self.inside.begin =
    ap length c.truncate.ensures ∙ length-take-le c.self.inside.begin c.self.inside.variables c.self.invariant in
    let within : c.args.begin ≤ length c.truncate.new.self = omega arith in
    left c.self.inside.tables c.args.begin c.truncate.new.self within here around
    (ap stacked c.truncate.ensures ∙ ap (λ (e : Env). e.scopes.around) c.self.view_is ∙ is) same
    ∙ ap (λ (e : Env). record { tables = e.tables; scopes = record { here = here; around = around } }) c.self.view_is
