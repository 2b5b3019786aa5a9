-- The turn at hand is one of the leader's in its program.
use Rattle.std.proofs.Common.{List}
use Rattle.std.specs.Prelude.{◌≡◌, ◌≤◌}
use Rattle.claim_laws.specs.World.{Event}
use Rattle.worker_pool.specs.Turns.{IsTurn}
use Rattle.worker_pool.proofs.desk.Desk.settle.Given as goal

abbrev pub invariant-loop : goal.invariant-loop
invariant-loop g l =
    (goal.iterator-loop g).can_next l.iterator' × (l.tally ≡ 0) × (l.initial.hands.seen ≤ l.hands.seen)
    × ((log : List Event) × IsTurn g.J.Meaning.solves log l.program.value l.aim l.hands.seen l.turn)
