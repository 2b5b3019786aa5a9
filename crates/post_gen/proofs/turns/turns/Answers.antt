use Rattle.std.specs.Prelude.{◌≡◌, suc, ◌+◌, ◌-◌}
use Rattle.std.proofs.Common.{arith, rules}
use Rattle.solve_laws.specs.Annotation.Annotation.{turn_of, turns}
use Rattle.solve_laws.specs.Annotation.Listing.{Course, Ends, Goes}
use Rattle.post_gen.specs.InListing.{annotated_by, listing_in}
use Rattle.post_gen.proofs.ListingLaws.{rest-given}
use Rattle.post_gen.proofs.Queueing.{taken, turn-ended, turn-more}
use Rattle.certificate_steps.specs.InTask.{task_in}
use Rattle.post_gen.proofs.turns.turns.Goals as goal

pub turn_of-requires-clause-listing : goal.turn_of-requires-clause-listing
turn_of-requires-clause-listing c =
    rest-given (task_in c.args.task.now) (listing_in c.loop-turn.listing) c.loop-turn.invariant.listing
    (c.in-Some.node, c.in-Some.state) c.pop_front.new.self.items c.in-Some.ensures.items

pub returns-in-Some-2-clause-value : goal.returns-in-Some-2-clause-value
returns-in-Some-2-clause-value c =
    let task = task_in c.args.task.now in
    let before = listing_in c.loop-turn.listing in
    let rest = c.pop_front.new.self.items in
    let left = c.args.most - c.loop-turn._turn in
    let more = c.args.most - (c.loop-turn._turn + 1) in
    let is_more : left ≡ suc more = omega (arith, c.loop-turn-test.true) in
    let ends : ◌≡◌ {A = Course} (Ends (annotated_by c.in-Some-2.ended)) (turn_of task c.in-Some.node c.in-Some.state (taken before rest)) =
    search rules in
    turn-ended task before
    (turns c.args.most task
    (listing_in c.args.listing.now)) left more c.in-Some.node c.in-Some.state rest c.in-Some.ensures.items is_more
    c.loop-turn.invariant.whole
    (annotated_by c.in-Some-2.ended) ends

pub loop-turn-preserved : goal.loop-turn-preserved
loop-turn-preserved c =
    let task = task_in c.args.task.now in
    let before = listing_in c.loop-turn.listing in
    let rest = c.pop_front.new.self.items in
    let left = c.args.most - c.loop-turn._turn in
    let more = c.args.most - (c.loop-turn._turn + 1) in
    let is_more : left ≡ suc more = omega (arith, c.loop-turn-test.true) in
    let goes : ◌≡◌ {A = Course} (Goes (listing_in c.turn_of.new.listing))
    (turn_of task c.in-Some.node c.in-Some.state (taken before rest)) = search rules in record {
      whole =
          turn-more task before
          (turns c.args.most task
          (listing_in c.args.listing.now)) left more c.in-Some.node c.in-Some.state rest c.in-Some.ensures.items is_more
          c.loop-turn.invariant.whole
          (listing_in c.turn_of.new.listing) goes;
      listing = c.in_ok-ended.ensures.listing;
    }
