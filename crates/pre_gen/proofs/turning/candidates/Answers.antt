use Rattle.std.proofs.Common.{◌∙◌, ap, subst, sym}
use Rattle.certificate_steps.specs.InTask.{task_in}
use Rattle.solve_laws.specs.Candidates.Candidates.{MOST_TURNS, turns}
use Rattle.solve_laws.specs.Candidates.Conditions.{IsSearch}
use Rattle.pre_gen.specs.InSearch.{search_in}
use Rattle.solve_laws.proofs.CandidatesLemmas.SearchFormed.{started-fine}
use Rattle.pre_gen.proofs.TurnSteps.{all-turns}
use Rattle.pre_gen.proofs.turning.candidates.Goals as goal

pub turns-requires-clause-search : goal.turns-requires-clause-search
turns-requires-clause-search c =
    subst (IsSearch (task_in c.args.task.now)) (sym c.in_ok-search.ensures) (started-fine (task_in c.args.task.now) c.requires)

pub returns : goal.returns
returns c =
    all-turns (task_in c.args.task.now) (search_in c.turns.new.search)
    (c.in_ok-turns.ensures ∙ ap (turns MOST_TURNS (task_in c.args.task.now)) c.in_ok-search.ensures)
