-- What the leader did is what the call did.
use Rattle.std.proofs.Common.{arith, refl, rules}
use Rattle.heapan_top.proofs.Led.{led_there, still_led}
use Rattle.heapan_top.proofs.session.answer_at_book.Goals as goal

pub returns-in-Ok-clause-led : goal.returns-in-Ok-clause-led
returns-in-Ok-clause-led g c =
    let (source_same, sink_same, keeper_same, reporters_same, led) = c.in-Ok.ensures.led in
    led_there g.S.Source.left g.K.Sink.held g.P.Keeper.kept g.S.Source.faults g.K.Sink.faults g.P.Keeper.faults
    (λ one. (goal.Reporter-dyn g (one.vtable, one.value)).known one.value) _ _ _ _ _ _ _ _ _ _ _ _ _ _ _ _ _ _ _ _ _ _ c.in-Ok.field-0.seen
    c.in-Ok.field-0.solves (search rules) (search rules) (search rules) (search rules) (search rules) (search rules) (search rules)
    (search rules) (search rules) (search rules) (search rules)
    (let seen = c.in-Ok.ensures.seen in let solves = c.in-Ok.ensures.solves in omega (arith, seen, solves)) led

pub returns-in-Err-clause-led : goal.returns-in-Err-clause-led
returns-in-Err-clause-led g c =
    led_there g.S.Source.left g.K.Sink.held g.P.Keeper.kept g.S.Source.faults g.K.Sink.faults g.P.Keeper.faults
    (λ one. (goal.Reporter-dyn g (one.vtable, one.value)).known one.value) _ _ _ _ _ _ _ _ _ _ _ _ _ _ _ _ _ _ _ _ _ _ _ _
    refl refl refl (search rules) refl (search rules) refl (search rules) refl (search rules) refl (omega arith)
    (still_led g.S.Source.left g.K.Sink.held g.P.Keeper.kept g.S.Source.faults g.K.Sink.faults g.P.Keeper.faults
    (λ one. (goal.Reporter-dyn g
    (one.vtable, one.value)).known one.value) _ _ c.args.source.now c.args.sink.now c.args.keeper.now c.args.reporters.items
    c.args.reporters.items _ 0 refl (search rules))
