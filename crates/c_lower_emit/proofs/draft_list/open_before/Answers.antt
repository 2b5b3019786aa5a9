use Rattle.std.proofs.Common.{◌<◌, ◌+◌, ◌-◌, get_or, subst, arith}
use Rattle.c_lower_emit.proofs.Listing.{counted}
use Rattle.c_lower_emit.proofs.draft_list.open_before.Goals as goal

pub returns-then-places-index : goal.returns-then-places-index
returns-then-places-index c = λ ds is le.
    counted c.args.places.now c.args.place (c.loop-index.index - 1 + 1)
    (omega (arith, c.loop-index-test.true, c.loop-index.auto.index))
    (λ k from lt. c.loop-index.invariant k (omega (arith, from, c.loop-index-test.true)) lt)
    (λ k same. subst (λ i. get_or c.args.places.now i 0 < c.args.place) (omega (arith, same)) c.if-places-index.true) ds is le

pub returns : goal.returns
returns c = λ ds is le.
    counted c.args.places.now c.args.place 0 (omega arith)
    (λ k from lt. c.loop-index.invariant k (omega (arith, c.loop-index-test.false)) lt) (λ k same. absurd (omega (arith, same))) ds is le
