use Rattle.std.proofs.Common.{◌≡◌, length, map}
use Rattle.claim_replay.specs.Values.{AreKnownFor, slot_value}
use Rattle.claim_replay.proofs.known.standings.Given as goal

abbrev pub invariant-loop-row : goal.invariant-loop-row
invariant-loop-row l =
    record { len : length l.known.items ≡ l.row-index; are : AreKnownFor l.program (map slot_value l.slots) l.known.items }
