use Rattle.std.proofs.Common.{Bool, ap, ◌∙◌}
use Rattle.c_types_rules.specs.Types.{unless, SECOND}
use Rattle.c_types_names.specs.FirstRefusal.{with_refusals}
use Rattle.c_types.proofs.structures.alias_refusals.Goals as goal

pub returns : goal.returns
returns c = c.unless.ensures
    ∙ ap (λ (b : Bool). with_refusals c.args.first.now (unless b c.args.alias.now.place SECOND)) c.may_be_alias.ensures
