use Rattle.std.proofs.Common.{ℕ, List, [], length, drop}
use Rattle.call_components.specs.Waiting.{AreWaiting, IsBounded}
use Rattle.call_components.proofs.waiting.wake_each.Given as goal

-- the numbers from here on still wake
abbrev pub invariant-loop-number : goal.invariant-loop-number
invariant-loop-number l =
    record {
      bounded : IsBounded (length l.initial.waiting.needs.items) (length l.initial.waiting.waits.items) l.waiting;
      woken : (all outs : List (List ℕ)) → AreWaiting all outs l.listed l.numbers [] l.initial.waiting
          → AreWaiting all outs l.listed (drop l.number-index l.numbers) [] l.waiting;
    }
