use Rattle.std.proofs.Common.{◌≡◌, map, take}
use Rattle.call_components.specs.Reaching.{rows}
use Rattle.composed_keys.specs.declared.rows.Component.{Component as ComponentRow}
use Rattle.composed_keys.specs.declared.rows.Outer.{Outer as OuterRow}
use Rattle.composed_keys.proofs.callees.calls_of.Given as goal

abbrev pub invariant-loop-component : goal.invariant-loop-component
invariant-loop-component l = rows l.calls.items
    ≡ map (λ (row : ComponentRow). map (λ (one : OuterRow). one.component) row.outer.items) (take l.component-index l.components)
