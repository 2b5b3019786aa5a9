use Rattle.std.proofs.Common.{unwrap_or, ap, ◌∙◌}
use Rattle.c_lower_rules.specs.Contexts.{slot_in}
use Rattle.c_lower_exprs.specs.Seen.{stacked}
use Rattle.c_lower_exprs.proofs.SlotsOfNames.{last_is}
use Rattle.c_lower_exprs.proofs.slots.Slots.last.Goals as goal

pub returns : goal.returns
returns c =
    c.unwrap_or.ensures
    ∙ ap (λ o. unwrap_or o 0) (c.slot_found.ensures ∙ c.self.invariant.found c.args.name.now)
    ∙ last_is c.self.inside.all.items c.args.name.now
    ∙ ap (λ bs. slot_in (stacked bs) c.args.name.now) c.self.view_is
