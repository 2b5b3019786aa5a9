use Rattle.std.proofs.Common.{sym, ap, ◌∙◌}
use Rattle.c_types_names.specs.Seen.{kind_seen}
use Rattle.c_lower_rules.specs.Contexts.{Context}
use Rattle.c_lower_exprs.specs.Seen.{stacked}
use Rattle.c_lower_exprs.proofs.Stacking.{variable_added}
use Rattle.c_lower_exprs.proofs.context.Context.add_local.Goals as goal

pub returns : goal.returns
returns c =
    ap (λ (x : Context). record x { env = c.add.new.self; bound = stacked c.push.new.self }) c.self.view_is
    ∙ variable_added c.args.self.now c.self.inside.env c.self.inside.bound c.push.new.self c.add.new.self
    (record { name = c.args.name; slot = c.args.slot }) (kind_seen c.args.kind)
    (ap (λ (x : Context). x.env) (sym c.self.view_is))
    (ap (λ (x : Context). x.bound) (sym c.self.view_is)) c.in_ok-add.ensures.variable c.in_ok-push.ensures.more
