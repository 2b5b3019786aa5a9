use Rattle.std.proofs.Common.{ap, ◌∙◌}
use Rattle.c_lower_rules.specs.Marks.{is_listed}
use Rattle.c_lower_emit.specs.VisibleSlots.{slots_in}
use Rattle.c_lower_emit.proofs.Runs.{listed_in_some}
use Rattle.c_lower_emit.proofs.visible_slots.VisibleSlots.contains.Goals as goal

pub returns : goal.returns
returns c =
    c.some_has.ensures ∙ listed_in_some c.as_slice.result.now c.args.slot
    ∙ ap (λ runs. is_listed (slots_in runs) c.args.slot) c.as_slice.ensures.value
    ∙ ap (λ ns. is_listed ns c.args.slot) c.self.view_is
