use Rattle.std.proofs.Common.{length, ◌-◌, ◌≡◌, ◌≤◌}
use Rattle.io_ports.specs.Bytes.{before_left}
use Rattle.session_lines.specs.Parts.{IsAbsent}
use Rattle.session_lines.proofs.reading.first_line.Given as goal

-- the stream is as it was, and nothing was read where a line feed stood ahead
abbrev pub invariant-loop-place : goal.invariant-loop-place
invariant-loop-place g l = record {
  stream : before_left l.fn.ahead (g.S.Source.left l.fn.source) ≡ before_left l.ahead (g.S.Source.left l.source);
  never_falls : g.S.Source.faults l.fn.source ≤ g.S.Source.faults l.source;
  unread : (IsAbsent 10 l.fn.ahead → ⊥) → (l.ahead ≡ l.fn.ahead) × (l.source ≡ l.fn.source);
}

abbrev pub decreases-loop-place : goal.decreases-loop-place
decreases-loop-place g l = 257 - length l.ahead
