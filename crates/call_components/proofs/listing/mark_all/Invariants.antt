use Rattle.std.proofs.Common.{◌≡◌, length, take}
use Rattle.call_components.specs.Tables.{AreAllMarked}
use Rattle.call_components.proofs.listing.mark_all.Given as goal

abbrev pub invariant-loop-number : goal.invariant-loop-number
invariant-loop-number l =
    record {
      lengths : length l.marks.items ≡ length l.initial.marks.items;
      marked : AreAllMarked (take l.number-index l.numbers) l.initial.marks.items l.marks.items;
    }
