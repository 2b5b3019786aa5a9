use Rattle.std.specs.Prelude.{◌≡◌}
use Rattle.std.proofs.Common.{rules}
use Rattle.solve_laws.specs.Annotation.Annotation.{annotate, started, turns}
use Rattle.solve_laws.specs.Annotation.Listing.{Course, Ends, Goes}
use Rattle.post_gen.specs.InListing.{annotated_by, listing_in}
use Rattle.post_gen.proofs.Queueing.{start-ended, start-more}
use Rattle.certificate_steps.specs.InTask.{task_in}
use Rattle.post_gen.proofs.annotating.list_all.Goals as goal

pub returns-in-Some-clause-value : goal.returns-in-Some-clause-value
unfolding annotate
returns-in-Some-clause-value c =
    let ended : ◌≡◌ {A = Course} (Ends (annotated_by c.in-Some.ended)) (started (task_in c.args.task.now) c.args.pre.now) = search rules in
    start-ended (turns 2048 (task_in c.args.task.now)) (started (task_in c.args.task.now) c.args.pre.now)
    (annotated_by c.in-Some.ended) ended

pub returns-clause-value : goal.returns-clause-value
unfolding annotate
returns-clause-value c =
    let goes : ◌≡◌ {A = Course} (Goes (listing_in c.start.new.listing)) (started (task_in c.args.task.now) c.args.pre.now) = search rules in
    start-more c.turns.result (turns 2048 (task_in c.args.task.now)) (started (task_in c.args.task.now) c.args.pre.now)
    (listing_in c.start.new.listing) (listing_in c.turns.new.listing) goes c.turns.ensures.value
