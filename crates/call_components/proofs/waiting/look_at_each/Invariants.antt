use Rattle.std.proofs.Common.{ℕ, List, length, drop}
use Rattle.call_components.specs.Waiting.{AreWaiting, IsBounded}
use Rattle.call_components.proofs.waiting.look_at_each.Given as goal

-- the places from here on are still to be looked at
abbrev pub invariant-loop-place : goal.invariant-loop-place
invariant-loop-place l =
    record {
      bounded : IsBounded (length l.initial.waiting.needs.items) (length l.initial.waiting.waits.items) l.waiting;
      looked : (all outs : List (List ℕ)) (wakes : List ℕ) → AreWaiting all outs l.listed wakes l.places l.initial.waiting
          → AreWaiting all outs l.listed wakes (drop l.place-index l.places) l.waiting;
    }
