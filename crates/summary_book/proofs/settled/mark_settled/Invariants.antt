use Rattle.claim_core.specs.Told.{events_of}
use Rattle.claim_laws.specs.Logs.{replay}
use Rattle.summary_book.specs.Settled.{AreExact, StayMarked}
use Rattle.summary_book.proofs.settled.mark_settled.Given as goal

abbrev pub invariant-loop-place : goal.invariant-loop-place
invariant-loop-place l = record {
  exact : AreExact (replay (events_of l.log)) l.marks.items l.place;
  stay : StayMarked l.fn.marks.items l.marks.items;
}
