use Rattle.std.proofs.Common.{◌≡◌, ◌++◌, not, take, filter}
use Rattle.call_components.specs.Tables.{same_kind}
use Rattle.call_components.proofs.waiting.add_outside.Given as goal

abbrev pub invariant-loop-callee : goal.invariant-loop-callee
invariant-loop-callee l = l.row.items
    ≡ l.initial.row.items ++ filter (λ callee. not (same_kind l.kinds callee l.number)) (take l.callee-index l.callees)
