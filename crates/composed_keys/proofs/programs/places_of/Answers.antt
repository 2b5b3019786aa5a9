use Rattle.std.proofs.Common.{◌≡◌, ◌<◌, ◌≤◌, ◌+◌, ◌-◌, ◌∙◌, [], length, get_or, sym, subst, arith}
use Rattle.std.proofs.lemmas.List.{length-map}
use Rattle.call_components.specs.Reaching.{rows}
use Rattle.call_components.proofs.Walk.{row_of}
use Rattle.composed_keys.specs.Programs.{ArePlaces, ArePut}
use Rattle.composed_keys.proofs.Placed.{places_more}
use Rattle.composed_keys.proofs.programs.places_of.Goals as goal

pub loop-place-preserved : goal.loop-place-preserved
loop-place-preserved c =
    let some : 0 < c.loop-place.place = c.loop-place-test.true in
    let few : c.loop-place.place ≤ length c.args.all.now = c.loop-place.auto.place in
    let same : length (rows c.args.all.now) ≡ length c.args.all.now = length-map c.args.all.now (λ class. class.items) in
    let next : c.loop-place.place ≡ c.loop-place.place - 1 + 1 = omega (arith, some) in
    let row : c.deref.result.now ≡ get_or (rows c.args.all.now) (c.loop-place.place - 1) [] =
    c.deref.ensures.value
    ∙ sym (row_of c.args.all.now (c.loop-place.place - 1) c.index-all-place.result (omega (arith, some, few)) c.index-all-place.is) in
    places_more c.args.count (rows c.args.all.now) (c.loop-place.place - 1) c.loop-place.places.items c.put_all.new.places.items
    (omega (arith, some, few, same))
    (subst (λ n. ArePlaces c.args.count
    (rows c.args.all.now) n c.loop-place.places.items) next c.loop-place.invariant) c.put_all.ensures.lengths
    (subst (λ l. ArePut l (c.loop-place.place - 1) c.loop-place.places.items c.put_all.new.places.items) row c.put_all.ensures.put)
