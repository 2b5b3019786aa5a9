-- Each case comes as the definition's.
use Rattle.std.proofs.Common.{◌∙◌, refl, sym, ap, subst, length}
use Rattle.std.proofs.lemmas.Iterator.Adapters.{YieldsList-from_vec}
use Rattle.std.proofs.lemmas.Iterator.Consumers.{YieldsList-turn}
use Rattle.std.proofs.lemmas.List.Elements.{All-same}
use Rattle.std.proofs.lemmas.Option.{slice_get_read}
use Rattle.sym_parts.proofs.ShapesLemmas.StepsStacks.{All-at}
use Rattle.certificate_steps.specs.InTask.{task_in}
use Rattle.solve_laws.specs.Candidates.Candidates.{case_comes}
use Rattle.solve_laws.specs.Candidates.Conditions.{IsGivenCase, IsSearch}
use Rattle.pre_gen.specs.InSearch.{search_in}
use Rattle.solve_laws.proofs.CandidatesLemmas.SearchFormed.{case_comes-keeps}
use Rattle.pre_gen.proofs.TurnSteps.{one-more}
use Rattle.pre_gen.proofs.turning.cases_come.Goals as goal

pub case_comes-requires-clause-case : goal.case_comes-requires-clause-case
case_comes-requires-clause-case c =
    let given = c.into_iter-case-iterator.ensures.into_iter_gives in
    let all =
    YieldsList-from_vec {s = c.into_iter-case-iterator.result} c.into_vec-case-items.result.items given.0
    (given.1 ∙ c.into_vec-case-items.result.ok.0) in
    let turn = YieldsList-turn all c.loop-case.yielded c.loop-case.case-iterator c.loop-case.yielded_by
    c.next.result c.next.new.self c.in-Some.case c.in-Some.is c.next.ensures.steps in
    let each =
    All-same (IsGivenCase
    (task_in c.args.task.now)) c.into_vec-case-items.result.items c.args.cases c.into_vec-case-items.ensures c.requires.cases in
    All-at (IsGivenCase (task_in c.args.task.now)) c.into_vec-case-items.result.items (length c.loop-case.yielded) c.in-Some.case each
    (slice_get_read c.into_vec-case-items.result.items (length c.into_vec-case-items.result.items)
    (length c.loop-case.yielded) c.in-Some.case refl turn.0 turn.1)

pub loop-case-preserved : goal.loop-case-preserved
loop-case-preserved c =
    let given = c.into_iter-case-iterator.ensures.into_iter_gives in
    let all =
    YieldsList-from_vec {s = c.into_iter-case-iterator.result} c.into_vec-case-items.result.items given.0
    (given.1 ∙ c.into_vec-case-items.result.ok.0) in
    let turn = YieldsList-turn all c.loop-case.yielded c.loop-case.case-iterator c.loop-case.yielded_by
    c.next.result c.next.new.self c.in-Some.case c.in-Some.is c.next.ensures.steps in
    let each =
    All-same (IsGivenCase
    (task_in c.args.task.now)) c.into_vec-case-items.result.items c.args.cases c.into_vec-case-items.ensures c.requires.cases in
    let fine =
    All-at (IsGivenCase (task_in c.args.task.now)) c.into_vec-case-items.result.items (length c.loop-case.yielded) c.in-Some.case each
    (slice_get_read c.into_vec-case-items.result.items (length c.into_vec-case-items.result.items)
    (length c.loop-case.yielded) c.in-Some.case refl turn.0 turn.1) in
    record {
      same = c.in_ok-case_comes.ensures ∙ ap (case_comes (task_in c.args.task.now) c.args.line c.in-Some.case) c.loop-case.invariant.same
          ∙ sym (one-more (task_in c.args.task.now) c.args.line c.loop-case.yielded c.in-Some.case (search_in c.args.search.now));
      good = subst (IsSearch (task_in c.args.task.now)) (sym c.in_ok-case_comes.ensures)
          (case_comes-keeps (task_in c.args.task.now) c.requires.task c.args.line c.in-Some.case
          (search_in c.loop-case.search) fine c.loop-case.invariant.good);
    }
