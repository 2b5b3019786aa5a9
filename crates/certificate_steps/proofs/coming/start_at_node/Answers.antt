use Rattle.std.specs.Prelude.{◌≡◌}
use Rattle.std.specs.declared.option.Option.{Option}
use Rattle.std.specs.declared.option.Option.TheVariants.{Some}
use Rattle.std.proofs.Common.{rules}
use Rattle.shape_data.specs.declared.symbolic.SymState.{SymState}
use Rattle.solve_laws.specs.Certificates.Coming.{start_form}
use Rattle.certificate_steps.specs.InTask.{task_in}
use Rattle.solve_laws.proofs.CertificatesLemmas.GivenLaws.{start-given}
use Rattle.certificate_steps.proofs.coming.start_at_node.Goals as goal

pub at_node-requires-clause-state : goal.at_node-requires-clause-state
at_node-requires-clause-state c =
    let is : ◌≡◌ {A = Option SymState} (Some c.in-Some.start) (start_form c.args.task.now.flow.now c.args.pre.now) = search rules in
    start-given (task_in c.args.task.now) c.requires.task c.args.pre.now c.in-Some.start c.requires.pre is
