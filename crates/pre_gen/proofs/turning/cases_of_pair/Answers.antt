use Rattle.std.specs.Prelude.{◌≡◌}
use Rattle.std.specs.declared.option.Option.{Option}
use Rattle.std.specs.declared.option.Option.TheVariants.{Some}
use Rattle.std.proofs.Common.{rules, sym}
use Rattle.shape_data.specs.declared.symbolic.SymState.{SymState}
use Rattle.shape_data.specs.WellFormed.{widest}
use Rattle.solve_laws.specs.Certificates.Coming.{normal_state}
use Rattle.solve_laws.specs.Certificates.Limits.{analysable}
use Rattle.solve_laws.proofs.CertificatesLemmas.GivenLaws.{state-wide, table-wide}
use Rattle.solve_laws.proofs.CertificatesLemmas.LimitLaws as limits
use Rattle.certificate_steps.specs.InTask.{task_in}
use Rattle.solve_laws.proofs.CandidatesLemmas.GivenCases.{executed-given}
use Rattle.pre_gen.proofs.turning.cases_of_pair.Goals as goal

pub search_cases-requires-clause-state : goal.search_cases-requires-clause-state
search_cases-requires-clause-state c =
    let is : ◌≡◌ {A = Option SymState} (Some c.in-Some.form) (normal_state c.args.pair.state) = search rules in
    state-wide (task_in c.args.task.now) c.requires.task c.in-Some.form
    (executed-given (task_in c.args.task.now) c.requires.task c.args.pair c.in-Some.form c.requires.pair (sym is)).state

pub search_cases-requires-clause-missing : goal.search_cases-requires-clause-missing
search_cases-requires-clause-missing c =
    limits.heap analysable widest limits.storable_is_analysable.1 _ _ c.args.pair.missing c.requires.pair.missing

pub search_cases-requires-clause-table : goal.search_cases-requires-clause-table
search_cases-requires-clause-table c = table-wide (task_in c.args.task.now) c.requires.task
