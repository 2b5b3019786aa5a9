-- By what is there.
use Rattle.std.proofs.Common.{◌≡◌, ◌∙◌, Some, ap, rules, subst}
use Rattle.std.specs.Prelude.{false, true}
use Rattle.io_ports.specs.Places.{IsHeld}
use Rattle.heapan_top.proofs.Fronts.{absent_opens, bytes_open, long_opens, opens_at}
use Rattle.heapan_top.proofs.opening.with_held.Goals as goal

pub returns-in-Absent : goal.returns-in-Absent
returns-in-Absent c =
    opens_at (λ there. IsHeld there c.args.held) false
    (λ there has. absent_opens there (subst (IsHeld there) c.in-Absent.is has)) c.without_entries.result c.without_entries.ensures.loaded
    c.without_entries.ensures.unread

pub returns-in-TooLong : goal.returns-in-TooLong
returns-in-TooLong c =
    opens_at (λ there. IsHeld there c.args.held) true
    (λ there has. long_opens there (subst (IsHeld there) c.in-TooLong.is has)) c.without_entries-in-TooLong.result
    c.without_entries-in-TooLong.ensures.loaded c.without_entries-in-TooLong.ensures.unread

pub returns-in-Bytes : goal.returns-in-Bytes
returns-in-Bytes c =
    let same : c.in-Bytes.bytes.items ≡ c.as_slice.result.now = search rules in
    bytes_open (λ there. IsHeld there c.args.held) c.as_slice.result.now
    (λ there has. subst (IsHeld there) c.in-Bytes.is has ∙ ap Some same) c.with_bytes.result c.with_bytes.ensures
