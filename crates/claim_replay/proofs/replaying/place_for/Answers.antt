use Rattle.std.proofs.Common.{◌≤◌, ◌<◌, subst, sym, get_or, arith}
use Rattle.claim_replay.proofs.Happening.{put_before, put_last}
use Rattle.claim_replay.proofs.replaying.place_for.Goals as goal

pub returns-then-claim-slot-clause-put : goal.returns-then-claim-slot-clause-put
returns-then-claim-slot-clause-put c = λ slot same.
    put_before slot c.args.slots.now c.loop-place.place c.index-slots-place.result c.loop-place-test.true c.index-slots-place.is
    (λ k d lt. subst (λ n. (get_or c.args.slots.now k d).claim ≤ n) (sym same) (c.loop-place.invariant k d lt))
    (subst (λ n. n < c.index-slots-place.result.claim) (sym same) c.if-claim-slot.true)

pub returns-clause-put : goal.returns-clause-put
returns-clause-put c = λ slot same.
    put_last slot c.args.slots.now
    (λ k d lt. subst (λ n. (get_or c.args.slots.now k d).claim ≤ n) (sym same)
    (c.loop-place.invariant k d (omega (arith, lt, c.loop-place-test.false))))
