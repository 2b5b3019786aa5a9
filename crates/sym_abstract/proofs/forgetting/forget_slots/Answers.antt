use Rattle.std.proofs.Common.{◌∙◌, ◌++◌, ◌∷◌, [], ap}
use Rattle.sym_abstract.proofs.ForgetTurns.{slot-turn}
use Rattle.sym_abstract.proofs.forgetting.forget_slots.Goals as goal

pub loop-slot-preserved : goal.loop-slot-preserved
loop-slot-preserved c =
    slot-turn c.args.mark.now c.args.locals.now c.args.first c.loop-slot.slot _ c.loop-slot.made.items _ c.loop-slot-test.true
    c.loop-slot.invariant
    (c.in_ok-push.ensures.items ∙ ap (λ e. c.loop-slot.made.items ++ e ∷ []) c.forget_slot.ensures)
