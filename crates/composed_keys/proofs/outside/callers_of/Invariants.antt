use Rattle.std.proofs.Common.{◌≡◌, length, take}
use Rattle.call_components.specs.Reaching.{rows}
use Rattle.composed_keys.specs.Outside.{AreCallers}
use Rattle.composed_keys.proofs.outside.callers_of.Given as goal

abbrev pub invariant-loop-caller : goal.invariant-loop-caller
invariant-loop-caller l =
    record { lengths : length l.callers.items ≡ length l.calls; callers : AreCallers (take l.caller (rows l.calls)) (rows l.callers.items) }
