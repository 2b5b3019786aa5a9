use Rattle.std.proofs.Common.{◌≡◌, length, take}
use Rattle.call_components.specs.Reaching.{rows}
use Rattle.composed_keys.specs.Outside.{AreNoted}
use Rattle.composed_keys.proofs.outside.note_caller.Given as goal

abbrev pub invariant-loop-callee : goal.invariant-loop-callee
invariant-loop-callee l =
    record {
      lengths : length l.callers.items ≡ length l.initial.callers.items;
      noted : AreNoted (take l.callee-index l.callees) l.caller (rows l.initial.callers.items) (rows l.callers.items);
    }
