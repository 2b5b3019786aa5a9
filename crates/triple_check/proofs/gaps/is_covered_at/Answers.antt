use Rattle.std.specs.Prelude.{◌≡◌, slice_get}
use Rattle.std.specs.declared.option.Option.TheVariants.{Some}
use Rattle.std.proofs.Common.{rules}
use Rattle.std.proofs.lemmas.List.Elements.{All-same}
use Rattle.subtraction.specs.Conditions.{IsStateWithinSizes}
use Rattle.certificate_steps.specs.InTask.{task_in}
use Rattle.certificate_steps.proofs.SizeLaws.{node-sizes, state-sizes}
use Rattle.triple_check.proofs.gaps.is_covered_at.Goals as goal

pub is_covered-requires-clause-states : goal.is_covered-requires-clause-states
is_covered-requires-clause-states c =
    let is : slice_get c.args.cert.now.nodes c.args.at ≡ Some c.in-Some.states.now = search rules in
    All-same IsStateWithinSizes c.as_slice.result.now c.in-Some.states.now c.as_slice.ensures
    (node-sizes (task_in c.args.task.now) c.requires.task c.args.cert.now c.requires.cert c.args.at c.in-Some.states.now is)

pub is_covered-requires-clause-state : goal.is_covered-requires-clause-state
is_covered-requires-clause-state c = state-sizes (task_in c.args.task.now) c.requires.task c.args.state.now c.requires.state
