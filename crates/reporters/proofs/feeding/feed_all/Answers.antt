-- One reporter after another, up to the end.
use Rattle.std.proofs.Common.{◌<◌, ◌≤◌, length, arith}
use Rattle.reporters.proofs.Fed.{fed_steady, feeding_ends, feeding_goes, feeding_stays}
use Rattle.reporters.proofs.feeding.feed_all.Goals as goal

pub loop-place-preserved-then-offer : goal.loop-place-preserved-then-offer
loop-place-preserved-then-offer g c =
    let lt : c.loop-place.place < length c.loop-place.reporters.items =
    (let t = c.loop-place-test.true in let e = c.len.ensures in let f = c.loop-place.reporters.ok.0 in omega (arith, t, e, f)) in
    feeding_stays
    (λ b. (goal.Reporter-dyn g
    (b.vtable, b.value)).known b.value) c.args.entry.now c.args.reporters.now.items c.loop-place.reporters.items c.loop-place.place
    c.index_mut.result.now c.offer.new.reporter lt
    c.index_mut.ensures.value c.loop-place.invariant (c.offer.ensures.stays c.if-offer.true)

pub loop-place-preserved : goal.loop-place-preserved
loop-place-preserved g c =
    let lt : c.loop-place.place < length c.loop-place.reporters.items =
    (let t = c.loop-place-test.true in let e = c.len.ensures in let f = c.loop-place.reporters.ok.0 in omega (arith, t, e, f)) in
    feeding_goes
    (λ b. (goal.Reporter-dyn g
    (b.vtable, b.value)).known b.value) c.args.entry.now c.args.reporters.now.items c.loop-place.reporters.items c.remove.new.self.items
    c.loop-place.place c.index_mut.result.now
    c.offer.new.reporter lt c.index_mut.ensures.value c.loop-place.invariant (c.offer.ensures.goes c.if-offer.false) c.remove.ensures.items

pub returns-clause-fed : goal.returns-clause-fed
returns-clause-fed g c =
    let le : length c.loop-place.reporters.items ≤ c.loop-place.place =
    (let t = c.loop-place-test.false in let e = c.len.ensures in let f = c.loop-place.reporters.ok.0 in omega (arith, t, e, f)) in
    feeding_ends
    (λ b. (goal.Reporter-dyn g
    (b.vtable, b.value)).known b.value) c.args.entry.now c.args.reporters.now.items c.loop-place.reporters.items c.loop-place.place le
    c.loop-place.invariant

pub returns-clause-steady : goal.returns-clause-steady
returns-clause-steady g c = fed_steady c.args.entry.now _ _ (returns-clause-fed g c)
