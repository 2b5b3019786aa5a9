use Rattle.std.proofs.lemmas.List.Elements.{All-same}
use Rattle.subtraction.specs.Conditions.{IsPostWithinSizes}
use Rattle.post_gen.proofs.Keeping.{kept-within}
use Rattle.post_gen.proofs.annotating.kept.Goals as goal

pub is_post_covered-requires-clause-posts : goal.is_post_covered-requires-clause-posts
is_post_covered-requires-clause-posts c =
    All-same IsPostWithinSizes c.as_slice.result.now c.loop-place.posts c.as_slice.ensures
    (kept-within c.args.exits.now c.loop-place.posts c.loop-place.place c.requires c.loop-place.invariant)
