use Rattle.std.specs.Prelude.{◌≡◌}
use Rattle.std.proofs.Common.{rules}
use Rattle.solve_laws.specs.Certificates.Inductive.{execution}
use Rattle.solve_laws.proofs.CertificatesLemmas.GivenLaws.{step-given, step-within}
use Rattle.certificate_steps.specs.InTask.{task_in}
use Rattle.post_gen.proofs.turns.turn_of.Goals as goal

pub after_step-requires-clause-step : goal.after_step-requires-clause-step
after_step-requires-clause-step c =
    let made : c.in_ok-step.step ≡ execution (task_in c.args.task.now) c.args.node c.args.state.now = search rules in
    step-given (task_in c.args.task.now) c.requires.task c.args.node c.args.state.now c.requires.state c.in_ok-step.step made

pub after_step-requires-clause-within : goal.after_step-requires-clause-within
after_step-requires-clause-within c =
    let made : c.in_ok-step.step ≡ execution (task_in c.args.task.now) c.args.node c.args.state.now = search rules in
    step-within (task_in c.args.task.now) c.requires.task c.args.node c.args.state.now c.requires.state c.in_ok-step.step made
