use Rattle.solve_laws.specs.Annotation.Annotation.{post_comes}
use Rattle.post_gen.proofs.Coming.{ComesUpTo}
use Rattle.post_gen.specs.InListing.{listing_in}
use Rattle.certificate_steps.specs.InTask.{task_in}
use Rattle.post_gen.proofs.turns.posts_come.Given as goal

abbrev pub invariant-loop-post : goal.invariant-loop-post
invariant-loop-post l =
    ComesUpTo (task_in l.task) (post_comes (task_in l.task)) l.posts l.post-index (listing_in l.initial.listing) (listing_in l.listing)
