use Rattle.std.proofs.Common.{length}
use Rattle.call_components.specs.Waiting.{AreNeeded}
use Rattle.call_components.proofs.waiting.last_missing.Given as goal

abbrev pub invariant-loop-number : goal.invariant-loop-number
invariant-loop-number l = AreNeeded l.listed l.initial.row.items l.row.items

abbrev pub decreases-loop-number : goal.decreases-loop-number
decreases-loop-number l = length l.row.items
