use Rattle.std.specs.Prelude.{◌≡◌, false, ltb}
use Rattle.std.proofs.Common.{sym, subst, rules}
use Rattle.std.proofs.lemmas.Bool.{ltb-false}
use Rattle.std.proofs.lemmas.List.Elements.{All-same}
use Rattle.subtraction.specs.Conditions.{IsPostWithinSizes}
use Rattle.solve_laws.specs.Annotation.Listing.{parts_of}
use Rattle.certificate_steps.specs.InTask.{task_in}
use Rattle.certificate_steps.proofs.SizeLaws.{post-sizes}
use Rattle.post_gen.specs.Conditions.{IsListing}
use Rattle.post_gen.specs.InListing.{listing_in}
use Rattle.post_gen.proofs.ListingLaws.{exit-listed, exits-within}
use Rattle.post_gen.proofs.Narrow.{post-narrow}
use Rattle.post_gen.proofs.listing.exit_comes.Goals as goal

pub is_post_covered-requires-clause-posts : goal.is_post_covered-requires-clause-posts
is_post_covered-requires-clause-posts c =
    All-same IsPostWithinSizes c.as_slice-exits.result.now c.args.listing.now.exits c.as_slice-exits.ensures
    (exits-within (task_in c.args.task.now) (listing_in c.args.listing.now) c.requires.listing c.requires.task)

pub is_post_covered-requires-clause-post : goal.is_post_covered-requires-clause-post
is_post_covered-requires-clause-post c = post-sizes (task_in c.args.task.now) c.requires.task c.args.post c.requires.post

pub returns-clause-listing : goal.returns-clause-listing
returns-clause-listing c =
    let small : ltb 96 (parts_of c.args.post.heap) ≡ false = search rules in
    subst (IsListing (task_in c.args.task.now)) (sym c.in_ok-list_exit.ensures)
    (exit-listed (task_in c.args.task.now) (listing_in c.args.listing.now) c.requires.listing c.args.post
    (post-narrow (task_in c.args.task.now) c.args.post c.requires.post (ltb-false 96 (parts_of c.args.post.heap) small)))
