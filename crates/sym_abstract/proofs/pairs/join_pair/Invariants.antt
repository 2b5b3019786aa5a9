use Rattle.std.proofs.Common.{◌≡◌, length}
use Rattle.abstraction_laws.specs.Pairs.{join_pair}
use Rattle.abstraction_laws.specs.Rooms.{HaveFewFields}
use Rattle.sym_abstract.proofs.pairs.join_pair.Given as goal

abbrev pub invariant-loop-turn : goal.invariant-loop-turn
invariant-loop-turn l = record {
  same : join_pair l.params l.pair ≡ join_pair l.params l.fn.pair;
  missing : HaveFewFields l.pair.missing.spatial;
  state : HaveFewFields l.pair.state.heap.spatial;
}

abbrev pub decreases-loop-turn : goal.decreases-loop-turn
decreases-loop-turn l = length l.pair.missing.spatial
