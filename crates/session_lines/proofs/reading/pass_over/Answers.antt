-- A piece more was passed over.
use Rattle.std.proofs.Common.{◌∙◌, ◌+◌, ◌++◌, ◌≤◌, sym, ap, arith, length, take, length-drop}
use Rattle.io_ports.specs.Bytes.{before_left}
use Rattle.session_lines.proofs.Streams.{length_taken, more_taken}
use Rattle.session_lines.proofs.reading.pass_over.Goals as goal

pub loop-count-preserved : goal.loop-count-preserved
loop-count-preserved g c =
    let inv = c.loop-count.invariant in
    let ahead = c.fill_if_empty.new.self in
    let size = ap length c.bytes.ensures.value in
    let some = c.in_ok-fill_if_empty.ensures.more c.in-More.is in
    let within : c.min-some.result ≤ length ahead = omega arith in
    let skipped = ap length c.skip.ensures in
    let dropped = length-drop c.min-some.result ahead in
    record {
      within = omega arith;
      stream = (
        inv.stream.0 ++ take c.min-some.result ahead,
        more_taken inv.stream.0 c.min-some.result ahead _ _ _ inv.stream.1 c.fill_if_empty.ensures.stream
            ∙ ap (λ xs. before_left (inv.stream.0 ++ take c.min-some.result ahead)
            (before_left xs (g.S.Source.left c.fill_if_empty.new.source))) (sym c.skip.ensures),
        length_taken inv.stream.0 ahead c.min-some.result within ∙ ap (λ n. n + c.min-some.result) inv.stream.2,
      );
      never_falls = omega (arith, c.fill_if_empty.ensures.never_falls, inv.never_falls);
      unread = λ all.
          let (same, enough) = inv.unread all in
          let kept = c.fill_if_empty.ensures.unread (omega (arith, enough, c.loop-count-test.true)) in
          (kept.0 ∙ same, omega (arith, ap length kept.1, enough));
    }
