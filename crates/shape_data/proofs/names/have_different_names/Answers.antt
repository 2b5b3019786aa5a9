use Rattle.std.proofs.Common.{refl}
use Rattle.shape_data.proofs.Places.{DifferBefore-more, DifferBefore-behind}
use Rattle.shape_data.proofs.names.have_different_names.Goals as goal

pub returns-then-not-is_unused : goal.returns-then-not-is_unused
returns-then-not-is_unused g c = (
  λ h i j d after inside same. cc,
  λ all. rw c.if-not-is_unused.true at (c.is_unused.ensures.1
      (DifferBefore-behind g.T.Named.name_of c.args.things.now c.loop-place.place c.index-things-place.result c.name.result.now
      c.name.ensures c.index-things-place.is c.loop-place-test.true all)),
)

pub loop-place-preserved : goal.loop-place-preserved
loop-place-preserved g c =
    DifferBefore-more g.T.Named.name_of c.args.things.now c.loop-place.place c.index-things-place.result c.name.result.now c.name.ensures
    c.index-things-place.is c.loop-place-test.true
    (c.is_unused.ensures.0 (rw c.if-not-is_unused.false refl)) c.loop-place.invariant
