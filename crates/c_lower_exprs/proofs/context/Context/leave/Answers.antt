use Rattle.std.proofs.Common.{◌<◌, ◌≤◌, length, sym, ap, ◌∙◌, subst}
use Rattle.c_types_rules.specs.Tables.{field_place}
use Rattle.c_lower_rules.specs.Contexts.{Context}
use Rattle.c_lower_exprs.specs.Seen.{stacked}
use Rattle.c_lower_exprs.proofs.Stacking.{left_tables, context_left}
use Rattle.c_lower_exprs.proofs.context.Context.leave.Goals as goal

pub invariant_of-self : goal.invariant_of-self
invariant_of-self c = λ tag n.
    subst (λ t. field_place t tag n < 4294967296)
    (sym (left_tables c.self.inside.env c.leave.new.self c.args.scope.begin
    (subst (λ (x : Context). c.args.scope.begin ≤ length x.env.scopes.around) (sym c.self.view_is) c.requires) c.leave.ensures))
    (c.self.invariant tag n)

pub returns : goal.returns
returns c = λ outer within begin bound.
    ap (λ (x : Context). record x { env = c.leave.new.self; bound = stacked c.truncate.new.self }) c.self.view_is
    ∙ ap (λ bs. record c.args.self.now { env = c.leave.new.self; bound = stacked bs }) c.truncate.ensures
    ∙ context_left outer c.args.self.now c.self.inside.env c.self.inside.bound c.leave.new.self c.args.scope.begin c.args.scope.bound
    (ap (λ (x : Context). x.env) (sym c.self.view_is))
    (ap (λ (x : Context). x.bound) (sym c.self.view_is)) c.leave.ensures within begin bound
