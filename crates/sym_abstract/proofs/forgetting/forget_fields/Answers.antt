use Rattle.std.proofs.Common.{◌∙◌, ◌++◌, ◌∷◌, [], ap}
use Rattle.sym_abstract.proofs.ForgetTurns.{field-turn}
use Rattle.sym_abstract.proofs.forgetting.forget_fields.Goals as goal

pub loop-place-preserved : goal.loop-place-preserved
loop-place-preserved c =
    field-turn c.args.fields.now c.args.values.now c.args.first c.loop-place.place _ c.loop-place.made.items _ c.loop-place-test.true
    c.loop-place.invariant
    (c.in_ok-push.ensures.items ∙ ap (λ e. c.loop-place.made.items ++ e ∷ []) c.forget_field.ensures)
