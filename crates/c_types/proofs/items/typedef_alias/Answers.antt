use Rattle.std.proofs.Common.{Bool, ap, ◌∙◌}
use Rattle.c_types_rules.specs.Types.{unless, UNDECLARED}
use Rattle.c_types_names.specs.FirstRefusal.{with_refusals}
use Rattle.c_types_names.proofs.FirstRefusals.{then}
use Rattle.c_types.proofs.items.typedef_alias.Goals as goal

pub returns : goal.returns
returns c =
    then _ _ _ _ _
    (c.unless.ensures
    ∙ ap (λ (b : Bool). with_refusals c.args.first.now
    (unless b c.args.tag.now.place UNDECLARED)) c.is_defined.ensures) c.alias_refusals.ensures
