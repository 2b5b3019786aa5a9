-- Each turn is the definition's.
use Rattle.std.proofs.Common.{◌∙◌, sym, subst}
use Rattle.certificate_steps.specs.InTask.{task_in}
use Rattle.solve_laws.specs.Candidates.Candidates.{turns}
use Rattle.solve_laws.specs.Candidates.Conditions.{IsSearch}
use Rattle.pre_gen.specs.InSearch.{search_in}
use Rattle.solve_laws.proofs.CandidatesLemmas.SearchFormed.{first-fine, turn-keeps}
use Rattle.pre_gen.proofs.TurnSteps.{no-turn, popped-fine, turn-more, turn-none}
use Rattle.pre_gen.proofs.turning.turns.Goals as goal

pub turn-requires-clause-pair : goal.turn-requires-clause-pair
turn-requires-clause-pair c =
    (first-fine (task_in c.args.task.now) c.requires.task c.in-Some.first.0 c.in-Some.first.1 c.pop_front.new.self.items
    (search_in c.loop-turn.search) c.in-Some.ensures.items c.loop-turn.invariant.good).1

pub turn-requires-clause-search : goal.turn-requires-clause-search
turn-requires-clause-search c =
    popped-fine (task_in c.args.task.now) c.in-Some.first.0 c.in-Some.first.1 c.pop_front.new.self.items
    (search_in c.loop-turn.search) c.in-Some.ensures.items c.loop-turn.invariant.good

pub loop-turn-preserved : goal.loop-turn-preserved
loop-turn-preserved c = record {
  same =
      turn-more (task_in c.args.task.now) c.args.most c.loop-turn._turn
      (turns c.args.most (task_in c.args.task.now) (search_in c.args.search.now))
      (search_in c.loop-turn.search) c.loop-turn.invariant.same c.loop-turn-test.true
      c.in-Some.first.0 c.in-Some.first.1 c.pop_front.new.self.items
      (search_in c.turn.new.search) c.in-Some.ensures.items c.in_ok-turn-in-Some.ensures;
  good = subst (IsSearch (task_in c.args.task.now)) (sym c.in_ok-turn-in-Some.ensures)
      (turn-keeps (task_in c.args.task.now) c.requires.task c.in-Some.first.0 c.in-Some.first.1 c.pop_front.new.self.items
      (search_in c.loop-turn.search) c.in-Some.ensures.items c.loop-turn.invariant.good);
}

pub returns-in-None : goal.returns-in-None
returns-in-None c =
    turn-none (task_in c.args.task.now) c.args.most c.loop-turn._turn
    (turns c.args.most (task_in c.args.task.now) (search_in c.args.search.now))
    (search_in c.loop-turn.search) c.loop-turn.invariant.same c.loop-turn-test.true
    c.pop_front.new.self.items (sym c.loop-turn.search.queue.ok.0 ∙ c.in-None.ensures.cases.0) c.in-None.ensures.items

pub returns : goal.returns
returns c =
    c.without_turns.ensures
    ∙ no-turn (task_in c.args.task.now) c.args.most c.loop-turn._turn
    (turns c.args.most (task_in c.args.task.now) (search_in c.args.search.now))
    (search_in c.loop-turn.search) c.loop-turn.invariant.same c.loop-turn-test.false
