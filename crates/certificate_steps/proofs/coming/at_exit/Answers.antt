use Rattle.std.specs.Prelude.{◌≡◌, IfSome}
use Rattle.std.specs.declared.option.Option.{Option}
use Rattle.std.proofs.lemmas.Result.{IfOk-weaker}
use Rattle.shape_data.specs.declared.symbolic.Post.{Post}
use Rattle.solve_laws.specs.Certificates.Coming as coming
use Rattle.solve_laws.specs.Certificates.Conditions.{IsTaskPost}
use Rattle.certificate_steps.specs.InTask.{task_in}
use Rattle.solve_laws.proofs.CertificatesLemmas.GivenLaws.{exit-given, post-room}
use Rattle.certificate_steps.proofs.coming.at_exit.Goals as goal

pub abstract_exit-requires-clause-sizes : goal.abstract_exit-requires-clause-sizes
abstract_exit-requires-clause-sizes c = post-room (task_in c.args.task.now) c.requires.task c.args.exit.now c.requires.exit

pub returns-clause-well_formed : goal.returns-clause-well_formed
returns-clause-well_formed c =
    IfOk-weaker c.abstract_exit.result (λ (form : Option Post). form ≡ coming.at_exit (task_in c.args.task.now) c.args.exit.now)
    (λ (form : Option Post). IfSome form (IsTaskPost (task_in c.args.task.now)))
    (λ form is. exit-given (task_in c.args.task.now) c.requires.task c.args.exit.now c.requires.exit form is) c.abstract_exit.ensures
