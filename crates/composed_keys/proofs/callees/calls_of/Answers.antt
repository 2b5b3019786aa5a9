-- One row more.
use Rattle.std.proofs.Common.{◌∙◌, map, ap}
use Rattle.call_components.specs.Reaching.{rows}
use Rattle.composed_keys.specs.declared.rows.Outer.{Outer as OuterRow}
use Rattle.composed_keys.proofs.CallRows.{calls_more}
use Rattle.composed_keys.proofs.callees.calls_of.Goals as goal

pub loop-component-preserved : goal.loop-component-preserved
loop-component-preserved c =
    ap rows c.in_ok-push.ensures.items ∙
    calls_more c.loop-component.calls.items c.args.components.now c.loop-component.component-index c.component-item.result
    c.in_ok-called.field-0 c.loop-component-test.true c.component-item.is c.loop-component.invariant
    (c.in_ok-called.ensures ∙ ap (map (λ (one : OuterRow). one.component)) c.deref.ensures.value)
