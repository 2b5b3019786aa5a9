use Rattle.std.proofs.Common.{sym, ap, ◌∙◌}
use Rattle.c_lower_rules.specs.Marks.{goes_to}
use Rattle.c_lower_marks.specs.Flagged.{flagged}
use Rattle.c_lower_marks.proofs.Flagging.{flag_set, flag_lacks, flag_no_slot}
use Rattle.c_lower_marks.proofs.assigned.flag_slot.Goals as goal

pub returns-then-place-flags : goal.returns-then-place-flags
returns-then-place-flags c =
    flag_set c.in-Some.slot c.args.flags.now c.if-place-flags.true
    ∙ ap (λ slot. flagged (goes_to slot) 0 c.args.flags.now) (sym c.in-Some.is)

pub returns-else-place-flags : goal.returns-else-place-flags
returns-else-place-flags c =
    flag_lacks c.in-Some.slot c.args.flags.now c.if-place-flags.false
    ∙ ap (λ slot. flagged (goes_to slot) 0 c.args.flags.now) (sym c.in-Some.is)

pub returns-in_default : goal.returns-in_default
returns-in_default c =
    flag_no_slot c.args.flags.now ∙ ap (λ slot. flagged (goes_to slot) 0 c.args.flags.now) (sym c.in_default.is)
