use Rattle.std.proofs.Common.{arith}
use Rattle.io_ports.proofs.ToldBytes.{after_held-more}
use Rattle.io_ports.proofs.sink.write_all.Goals as goal

pub loop-written-preserved : goal.loop-written-preserved
loop-written-preserved g c = record {
  within = omega (arith, c.in-Ok.ensures.bound);
  appended =
      after_held-more _ _ _ c.args.bytes.now c.loop-written.written c.in-Ok.count c.loop-written.invariant.appended
      c.in-Ok.ensures.appended;
  untouched = λ none. absurd (omega (arith, c.in-Ok.ensures.some));
  never_falls = omega (arith, c.in-Ok.ensures.never_falls, c.loop-written.invariant.never_falls);
}
