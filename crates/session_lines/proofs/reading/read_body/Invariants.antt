use Rattle.std.proofs.Common.{length, vec_len, ◌+◌, ◌-◌, ◌≡◌, ◌≤◌}
use Rattle.io_ports.specs.Bytes.{before_left}
use Rattle.session_lines.proofs.reading.read_body.Given as goal

-- the bytes taken so far and the stream that is left are the stream, and nothing was read where enough stood ahead
abbrev pub invariant-loop-ahead : goal.invariant-loop-ahead
invariant-loop-ahead g l = record {
  within : vec_len l.bytes ≤ l.size;
  stream : before_left l.fn.ahead (g.S.Source.left l.fn.source)
      ≡ before_left l.bytes.items (before_left l.ahead (g.S.Source.left l.source));
  never_falls : g.S.Source.faults l.fn.source ≤ g.S.Source.faults l.source;
  unread : l.size ≤ length l.fn.ahead → (l.source ≡ l.fn.source) × (l.size ≤ vec_len l.bytes + length l.ahead);
}

abbrev pub decreases-loop-ahead : goal.decreases-loop-ahead
decreases-loop-ahead g l = l.size - vec_len l.bytes
