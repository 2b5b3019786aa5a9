use Rattle.claim_core.specs.Told.{events_of}
use Rattle.claim_laws.specs.Logs.{replay}
use Rattle.summary_book.proofs.Revised.{AreFound}
use Rattle.summary_book.proofs.meeting.slots_in.Given as goal

abbrev pub invariant-loop-place : goal.invariant-loop-place
invariant-loop-place l = AreFound l.log (replay (events_of l.log)).slots l.new.program.value l.slots l.kept.items l.place
