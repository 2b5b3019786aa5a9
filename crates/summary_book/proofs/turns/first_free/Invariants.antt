use Rattle.call_components.specs.Reaching.{marked}
use Rattle.claim_core.specs.Told.{events_of}
use Rattle.claim_laws.specs.Logs.{replay}
use Rattle.summary_book.specs.Settled.{StayMarked}
use Rattle.summary_book.proofs.Search.{AreSeen}
use Rattle.summary_book.proofs.turns.first_free.Given as goal

abbrev pub invariant-loop-place : goal.invariant-loop-place
invariant-loop-place l = record {
  seen : AreSeen (replay (events_of l.log)) (marked l.aim) l.marks.items l.least l.place;
  stay : StayMarked l.fn.marks.items l.marks.items;
}
