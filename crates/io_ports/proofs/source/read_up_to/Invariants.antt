use Rattle.std.proofs.Common.{vec_len, ◌-◌, ◌≡◌, ◌≤◌}
use Rattle.io_ports.specs.Bytes.{before_left}
use Rattle.io_ports.proofs.source.read_up_to.Given as goal

-- the bytes read and those left are what was left, and the count has not fallen
abbrev pub invariant-loop-piece : goal.invariant-loop-piece
invariant-loop-piece g l = record {
  within : vec_len l.bytes ≤ l.limit;
  kept : g.S.Source.left l.fn.source ≡ before_left l.bytes.items (g.S.Source.left l.source);
  never_falls : g.S.Source.faults l.fn.source ≤ g.S.Source.faults l.source;
}

abbrev pub decreases-loop-piece : goal.decreases-loop-piece
decreases-loop-piece g l = l.limit - vec_len l.bytes
