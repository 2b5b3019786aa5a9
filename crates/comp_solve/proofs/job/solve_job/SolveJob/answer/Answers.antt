-- A loaded answer is right for its key.
use Rattle.std.proofs.Common.{◌≡◌, ◌∙◌, Some, ap, sym, subst, inr}
use Rattle.std.specs.Option.{option_map}
use Rattle.std.proofs.lemmas.Result.{IfOk-weaker}
use Rattle.shape_data.specs.WellFormed.{IsStorableAnswer}
use Rattle.loaded_answers.specs.Lookup.{first_answer}
use Rattle.comp_solve.specs.Job.Solves.{Solves}
use Rattle.comp_solve.proofs.JobLemmas.AnswersFound.{stored_found}
use Rattle.comp_solve.proofs.job.solve_job.SolveJob.answer.Goals as goal

pub returns-in-Some-clause-solves : goal.returns-in-Some-clause-solves
returns-in-Some-clause-solves c =
    let key = c.args.key.now in
    let answer = c.in-Some.answer.now.value in
    let is : first_answer c.deref.result.now key ≡ Some answer =
    ap (λ loaded. first_answer loaded key) (sym c.answers.ensures.value) ∙ sym c.find.ensures
    ∙ ap (option_map (λ one. one.now.value)) c.in-Some.is in
    let entry = stored_found c.deref.result.now c.answers.ensures.stored key answer is in
    IfOk-weaker c.share.result (λ shared. shared.value ≡ answer) (λ shared. Solves key shared.value)
    (λ shared same. subst (Solves key) (sym same) (inr entry.right)) c.share.ensures

pub returns-in-Some-clause-storable : goal.returns-in-Some-clause-storable
returns-in-Some-clause-storable c =
    let key = c.args.key.now in
    let answer = c.in-Some.answer.now.value in
    let is : first_answer c.deref.result.now key ≡ Some answer =
    ap (λ loaded. first_answer loaded key) (sym c.answers.ensures.value) ∙ sym c.find.ensures
    ∙ ap (option_map (λ one. one.now.value)) c.in-Some.is in
    let entry = stored_found c.deref.result.now c.answers.ensures.stored key answer is in
    IfOk-weaker c.share.result (λ shared. shared.value ≡ answer) (λ shared. IsStorableAnswer key shared.value)
    (λ shared same. subst (IsStorableAnswer key) (sym same) entry.storable) c.share.ensures
