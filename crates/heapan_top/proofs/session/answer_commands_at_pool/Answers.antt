-- Where no pool could be made, nothing was read and nothing was written.
use Rattle.std.proofs.Common.{ap, rules}
use Rattle.heapan_top.proofs.Led.{still_led}
use Rattle.heapan_top.proofs.session.answer_commands_at_pool.Goals as goal

pub returns-in_default-clause-led : goal.returns-in_default-clause-led
returns-in_default-clause-led g c =
    still_led g.S.Source.left g.K.Sink.held g.P.Keeper.kept g.S.Source.faults g.K.Sink.faults g.P.Keeper.faults
    (λ one. (goal.Reporter-dyn g (one.vtable, one.value)).known one.value) _ _ _ _ _ _ _ _ _
    (ap (λ all. all.items) c.nothing_done.ensures.reporters) c.nothing_done.ensures.status

pub returns-in_default-share-clause-led : goal.returns-in_default-share-clause-led
returns-in_default-share-clause-led g c =
    still_led g.S.Source.left g.K.Sink.held g.P.Keeper.kept g.S.Source.faults g.K.Sink.faults g.P.Keeper.faults
    (λ one. (goal.Reporter-dyn g (one.vtable, one.value)).known one.value) _ _ _ _ _ _ _ _ _
    (search rules) (search rules)
