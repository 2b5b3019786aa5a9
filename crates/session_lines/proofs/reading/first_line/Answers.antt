-- A line feed far behind, or none in so many bytes.
use Rattle.std.proofs.Common.{ap, arith, length}
use Rattle.session_lines.proofs.Streams.{absent_front, absent_in_front}
use Rattle.session_lines.proofs.reading.first_line.Goals as goal

pub returns-else-place-le-MOST_LINE_BYTES-clause-ends : goal.returns-else-place-le-MOST_LINE_BYTES-clause-ends
returns-else-place-le-MOST_LINE_BYTES-clause-ends g c =
    let at = rw c.bytes.ensures.value at c.in-Some.ensures.some in
    (absent_front 10 257 c.in-Some.place c.loop-place.ahead (omega arith) at.first, omega (arith, at.within))

pub returns-then-bytes-gt-MOST_LINE_BYTES-clause-ends : goal.returns-then-bytes-gt-MOST_LINE_BYTES-clause-ends
returns-then-bytes-gt-MOST_LINE_BYTES-clause-ends g c = (
  absent_in_front 10 257 c.loop-place.ahead (rw c.bytes.ensures.value at c.in_default.ensures.none),
  omega
      (arith, ap length c.bytes-in-loop-place.ensures.value),
)
