-- A piece more was taken.
use Rattle.std.proofs.Common.{◌≡◌, ◌∙◌, ◌++◌, ◌≤◌, sym, ap, arith, length, take, length-drop}
use Rattle.std.proofs.lemmas.Grind.{common_steps}
use Rattle.io_ports.specs.Bytes.{before_left}
use Rattle.session_lines.proofs.Streams.{length_taken, more_taken}
use Rattle.session_lines.proofs.reading.read_body.Goals as goal

pub loop-ahead-preserved : goal.loop-ahead-preserved
loop-ahead-preserved g c =
    let inv = c.loop-ahead.invariant in
    let ahead = c.fill_if_empty.new.self in
    let left = g.S.Source.left c.fill_if_empty.new.source in
    let size = ap length c.bytes.ensures.value in
    let size' = ap length c.bytes-in-loop-ahead.ensures.value in
    let some = c.in_ok-fill_if_empty.ensures.more c.in-More.is in
    let count = c.min-count.result in
    let within : count ≤ length ahead = omega arith in
    let skipped = ap length c.skip.ensures in
    let dropped = length-drop count ahead in
    let added : c.extend_from_slice.new.self.items ≡ c.loop-ahead.bytes.items ++ take count ahead =
    grind (arith, common_steps, c.in_ok-extend_from_slice.ensures.items, c.bytes-in-loop-ahead.ensures.value) in
    let longer = c.in_ok-extend_from_slice.ensures.len in
    record {
      within = omega (arith, ap length added, length_taken c.loop-ahead.bytes.items ahead count within);
      stream =
          more_taken c.loop-ahead.bytes.items count ahead _ _ _ inv.stream c.fill_if_empty.ensures.stream
          ∙ ap (λ xs. before_left (c.loop-ahead.bytes.items ++ take count ahead) (before_left xs left)) (sym c.skip.ensures)
          ∙ ap (λ xs. before_left xs (before_left c.skip.new.self left)) (sym added);
      never_falls = omega (arith, c.fill_if_empty.ensures.never_falls, inv.never_falls);
      unread = λ all.
          let (same, enough) = inv.unread all in
          let kept = c.fill_if_empty.ensures.unread (omega (arith, enough, c.loop-ahead-test.true)) in (
            kept.0 ∙ same,
            omega
                (arith, ap length kept.1, enough, ap length added, length_taken c.loop-ahead.bytes.items ahead count within),
          );
    }
