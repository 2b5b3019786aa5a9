use Rattle.std.proofs.Common.{length, take, ◌-◌, ◌≡◌, ◌≤◌}
use Rattle.io_ports.specs.Bytes.{after_held}
use Rattle.io_ports.proofs.sink.write_all.Given as goal

-- the front of the bytes up to here was appended, and the count has not fallen
abbrev pub invariant-loop-written : goal.invariant-loop-written
invariant-loop-written g l = record {
  within : l.written ≤ length l.bytes;
  appended : g.S.Sink.held l.sink ≡ after_held (g.S.Sink.held l.fn.sink) (take l.written l.bytes);
  untouched : l.written ≡ 0 → l.sink ≡ l.fn.sink;
  never_falls : g.S.Sink.faults l.fn.sink ≤ g.S.Sink.faults l.sink;
}

abbrev pub decreases-loop-written : goal.decreases-loop-written
decreases-loop-written g l = length l.bytes - l.written
