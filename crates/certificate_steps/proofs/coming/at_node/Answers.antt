use Rattle.std.specs.Prelude.{◌≡◌, IfSome}
use Rattle.std.specs.declared.option.Option.{Option}
use Rattle.std.proofs.lemmas.Result.{IfOk-weaker}
use Rattle.shape_data.specs.declared.symbolic.SymState.{SymState}
use Rattle.abstraction_laws.specs.Heads.{abstract_head}
use Rattle.solve_laws.specs.Certificates.Conditions.{IsTaskState}
use Rattle.certificate_steps.specs.InTask.{task_in}
use Rattle.solve_laws.proofs.CertificatesLemmas.GivenLaws.{head-given, state-room}
use Rattle.certificate_steps.proofs.coming.at_node.Goals as goal

pub abstract_head-requires-clause-sizes : goal.abstract_head-requires-clause-sizes
abstract_head-requires-clause-sizes c = state-room (task_in c.args.task.now) c.requires.task c.args.state.now c.requires.state

pub returns-in-Some-head-clause-well_formed : goal.returns-in-Some-head-clause-well_formed
returns-in-Some-head-clause-well_formed c =
    IfOk-weaker c.abstract_head.result
    (λ (form : Option SymState). form
    ≡ abstract_head c.args.state.now c.args.task.now.flow.now c.in-Some-head.mark c.args.task.now.structs.now)
    (λ (form : Option SymState). IfSome form (IsTaskState (task_in c.args.task.now)))
    (λ form is. head-given
    (task_in c.args.task.now) c.requires.task c.args.state.now c.in-Some-head.mark c.requires.state form is) c.abstract_head.ensures
