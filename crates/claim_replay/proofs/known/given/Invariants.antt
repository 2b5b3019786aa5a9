use Rattle.std.proofs.Common.{◌≡◌, drop, map}
use Rattle.component_keys.specs.Keys.{flows_of}
use Rattle.claim_replay.specs.Values.{given_rows, slot_value}
use Rattle.claim_replay.proofs.Knowing.{prepended}
use Rattle.claim_replay.proofs.known.given.Given as goal

abbrev pub invariant-loop-one : goal.invariant-loop-one
invariant-loop-one l =
    given_rows (flows_of l.program) (map slot_value l.slots) l.known l.outer
    ≡ prepended l.callees (given_rows (flows_of l.program) (map slot_value l.slots) l.known (drop l.one-index l.outer))
