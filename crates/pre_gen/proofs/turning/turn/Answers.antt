use Rattle.std.proofs.Common.{◌≡◌, ◌∙◌, ap}
use Rattle.std.proofs.lemmas.List.Elements.{All-same}
use Rattle.std.proofs.lemmas.Result.{on_ok_weaker}
use Rattle.solve_laws.specs.Certificates.Gaps.{line_at}
use Rattle.certificate_steps.specs.InTask.{task_in}
use Rattle.solve_laws.specs.Candidates.Candidates.{cases_come, cases_of_pair}
use Rattle.solve_laws.specs.Candidates.Conditions.{IsGivenCase}
use Rattle.pre_gen.specs.InSearch.{search_in}
use Rattle.solve_laws.proofs.CandidatesLemmas.GivenCases.{cases-given}
use Rattle.pre_gen.proofs.turning.turn.Goals as goal

pub cases_come-requires-clause-cases : goal.cases_come-requires-clause-cases
cases_come-requires-clause-cases c =
    All-same (IsGivenCase (task_in c.args.task.now)) c.in_ok-cases.cases
    (cases_of_pair (task_in c.args.task.now) c.args.node c.args.pair) c.in_ok-cases.ensures
    (cases-given (task_in c.args.task.now) c.requires.task c.args.node c.args.pair c.requires.pair)

pub returns : goal.returns
returns c =
    on_ok_weaker {P = search_in c.cases_come.new.search
    ≡ cases_come (task_in c.args.task.now) c.line_at-line.result c.in_ok-cases.cases (search_in c.args.search.now)} c.cases_come.result
    (λ is. is ∙ ap
    (λ line. cases_come (task_in c.args.task.now) line c.in_ok-cases.cases (search_in c.args.search.now)) c.line_at-line.ensures
    ∙ ap (λ cases. cases_come (task_in c.args.task.now) (line_at (task_in c.args.task.now) c.args.node) cases
    (search_in c.args.search.now)) c.in_ok-cases.ensures) c.cases_come.ensures
