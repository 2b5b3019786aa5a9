use Rattle.std.specs.Prelude.{◌≡◌}
use Rattle.std.specs.declared.option.Option.{Option}
use Rattle.std.specs.declared.option.Option.TheVariants.{Some}
use Rattle.std.proofs.Common.{rules}
use Rattle.shape_data.specs.declared.symbolic.SymState.{SymState}
use Rattle.solve_laws.specs.Certificates.Coming.{normal_state}
use Rattle.solve_laws.specs.Certificates.Inductive.{execution}
use Rattle.certificate_steps.specs.InTask.{task_in}
use Rattle.solve_laws.proofs.CertificatesLemmas.GivenLaws.{normal-given, state-wide, step-given}
use Rattle.triple_check.proofs.gaps.state_gap.Goals as goal

pub exec-requires-clause-state : goal.exec-requires-clause-state
exec-requires-clause-state c =
    let is : ◌≡◌ {A = Option SymState} (Some c.in-Some.form) (normal_state c.args.state.now) = search rules in
    state-wide (task_in c.args.task.now) c.requires.task c.in-Some.form
    (normal-given (task_in c.args.task.now) c.requires.task c.args.state.now c.in-Some.form c.requires.state is)

pub step_gap-requires-clause-step : goal.step_gap-requires-clause-step
step_gap-requires-clause-step c =
    let is : ◌≡◌ {A = Option SymState} (Some c.in-Some.form) (normal_state c.args.state.now) = search rules in
    let made : c.in_ok-step-in-Some.step ≡ execution (task_in c.args.task.now) c.args.at c.in-Some.form = search rules in
    step-given (task_in c.args.task.now) c.requires.task c.args.at c.in-Some.form
    (normal-given
    (task_in c.args.task.now) c.requires.task c.args.state.now c.in-Some.form c.requires.state is) c.in_ok-step-in-Some.step made
