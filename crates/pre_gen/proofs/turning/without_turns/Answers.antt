use Rattle.std.proofs.Common.{◌∙◌, ap}
use Rattle.shape_data.specs.declared.answer.Fault.TheVariants as fault
use Rattle.certificate_steps.specs.InTask.{task_in}
use Rattle.solve_laws.specs.Candidates.Searching.{drops}
use Rattle.pre_gen.specs.InSearch.{search_in}
use Rattle.pre_gen.proofs.TurnSteps.{first-waits, none-waits}
use Rattle.pre_gen.proofs.turning.without_turns.Goals as goal

pub returns-in-None : goal.returns-in-None
returns-in-None c =
    none-waits (task_in c.args.task.now) (search_in c.args.search.now) c.args.search.now.queue.items c.in-None.ensures.item.3

pub returns-in-Some : goal.returns-in-Some
returns-in-Some c =
    c.drops.ensures ∙ ap (λ line. drops fault.Turns line (search_in c.args.search.now)) c.line_at.ensures
    ∙ first-waits (task_in c.args.task.now)
    (search_in c.args.search.now) c.args.search.now.queue.items c.in-Some.first.now c.in-Some.ensures.item.3.0 c.in-Some.ensures.lookup
