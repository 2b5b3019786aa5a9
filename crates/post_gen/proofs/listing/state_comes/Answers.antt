use Rattle.std.specs.Prelude.{◌≡◌, false, ltb}
use Rattle.std.proofs.Common.{sym, subst, rules}
use Rattle.std.proofs.lemmas.Bool.{ltb-false}
use Rattle.std.proofs.lemmas.List.Elements.{All-same}
use Rattle.subtraction.specs.Conditions.{IsStateWithinSizes}
use Rattle.solve_laws.specs.Annotation.Listing.{parts_of}
use Rattle.certificate_steps.specs.InTask.{task_in}
use Rattle.certificate_steps.proofs.SizeLaws.{state-sizes}
use Rattle.post_gen.specs.Conditions.{IsListing}
use Rattle.post_gen.specs.InListing.{listing_in}
use Rattle.post_gen.proofs.ListingLaws.{node-within, state-listed}
use Rattle.post_gen.proofs.Narrow.{state-narrow}
use Rattle.post_gen.proofs.listing.state_comes.Goals as goal

pub is_covered-requires-clause-states : goal.is_covered-requires-clause-states
is_covered-requires-clause-states c =
    All-same IsStateWithinSizes c.as_slice-states.result.now c.index.result.now c.as_slice-states.ensures
    (node-within (task_in c.args.task.now)
    (listing_in c.args.listing.now) c.requires.listing c.requires.task c.args.node c.index.result.now c.requires.node c.index.ensures)

pub is_covered-requires-clause-state : goal.is_covered-requires-clause-state
is_covered-requires-clause-state c = state-sizes (task_in c.args.task.now) c.requires.task c.args.state c.requires.state

pub returns-clause-listing : goal.returns-clause-listing
returns-clause-listing c =
    let small : ltb 96 (parts_of c.args.state.heap) ≡ false = search rules in
    subst (IsListing (task_in c.args.task.now)) (sym c.in_ok-list_state.ensures)
    (state-listed (task_in c.args.task.now) (listing_in c.args.listing.now) c.requires.listing c.args.node c.args.state c.requires.node
    (state-narrow (task_in c.args.task.now) c.args.state c.requires.state (ltb-false 96 (parts_of c.args.state.heap) small)))
