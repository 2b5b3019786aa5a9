use Rattle.std.proofs.Common.{◌∙◌, ◌+◌, ◌-◌, ◌++◌, ap, sym}
use Rattle.sym_canon.specs.Placing.{params_from}
use Rattle.sym_canon.proofs.PlacingTurns.{param_queued}
use Rattle.sym_canon.proofs.placing.first_queue.Goals as goal

pub loop-param-preserved : goal.loop-param-preserved
loop-param-preserved c =
    c.loop-param.invariant ∙ (param_queued c.args.params c.loop-param.param c.loop-param.queue.items c.loop-param-test.true
    ∙ ap (λ queue. queue ++ params_from (c.loop-param.param + 1) (c.args.params - (c.loop-param.param + 1)))
    (sym c.in_ok-push.ensures.items))
