use Rattle.std.proofs.Common.{◌≡◌, filter, map}
use Rattle.claim_replay.specs.Values.{is_of_rows, slot_value}
use Rattle.claim_replay.proofs.replaying.present_slots.Given as goal

abbrev pub invariant-loop-slot : goal.invariant-loop-slot
invariant-loop-slot l = map slot_value l.kept ≡ filter (is_of_rows l.program l.rows) (map slot_value l.yielded)
