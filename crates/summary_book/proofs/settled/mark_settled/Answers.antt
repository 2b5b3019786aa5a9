-- One component more, and no mark goes.
use Rattle.summary_book.proofs.settled.mark_settled.Goals as goal

pub loop-place-preserved : goal.loop-place-preserved
loop-place-preserved c =
    record {
      exact = c.look_at.ensures.exact c.loop-place.invariant.exact;
      stay = λ place mark. c.look_at.ensures.stay place (c.loop-place.invariant.stay place mark);
    }
