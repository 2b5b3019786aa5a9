use Rattle.std.proofs.Common.{ap, ◌∙◌}
use Rattle.c_types_rules.specs.Scopes.{Env, with_variable}
use Rattle.c_types_names.specs.Seen.{kind_seen}
use Rattle.c_types_names.proofs.Stacking.{added}
use Rattle.c_types_names.proofs.env.Env.add.Goals as goal

pub returns-clause-variable : goal.returns-clause-variable
returns-clause-variable c =
    added c.self.inside.tables c.self.inside.begin c.self.inside.variables c.self.invariant c.push.new.self
    (record { name = c.args.name; kind = c.args.kind }) c.in_ok-push.ensures.more
    ∙ ap (λ (e : Env). with_variable e c.args.name.now (kind_seen c.args.kind)) c.self.view_is
