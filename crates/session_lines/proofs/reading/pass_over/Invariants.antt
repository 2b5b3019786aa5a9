use Rattle.std.proofs.Common.{ℕ, List, length, ◌+◌, ◌-◌, ◌≡◌, ◌≤◌}
use Rattle.io_ports.specs.Bytes.{before_left}
use Rattle.session_lines.proofs.reading.pass_over.Given as goal

-- the bytes taken so far and the stream that is left are the stream, and nothing was read where enough stood ahead
abbrev pub invariant-loop-count : goal.invariant-loop-count
invariant-loop-count g l = record {
  within : l.count ≤ l.size;
  stream : (bytes : List ℕ)
      × (before_left l.fn.ahead (g.S.Source.left l.fn.source) ≡ before_left bytes (before_left l.ahead (g.S.Source.left l.source)))
      × (length bytes ≡ l.count);
  never_falls : g.S.Source.faults l.fn.source ≤ g.S.Source.faults l.source;
  unread : l.size ≤ length l.fn.ahead → (l.source ≡ l.fn.source) × (l.size ≤ l.count + length l.ahead);
}

abbrev pub decreases-loop-count : goal.decreases-loop-count
decreases-loop-count g l = l.size - l.count
