-- What a desk answers for an aim is what is known of the components that it reaches, one answer for each.
use Rattle.std.proofs.Common.{◌≡◌, List, [], ◌∷◌, length, refl, map, sym, ap, ◌∙◌, subst}
use Rattle.std.specs.Prelude.{All, get_or}
use Rattle.shape_data.specs.declared.answer.Answer.{Answer}
use Rattle.shape_data.specs.declared.answer.Kept.{Kept}
use Rattle.shape_data.specs.declared.answer.Key.{Key}
use Rattle.shape_data.specs.declared.program.Program.{Program}
use Rattle.claim_core.specs.Views.{Solution, solution_of, solutions_of}
use Rattle.claim_laws.specs.Logs.{replay}
use Rattle.summary_book.specs.declared.aims.Aim.{Aim}
use Rattle.summary_book.specs.declared.aims.Aim.TheVariants as aims
use Rattle.summary_book.specs.Aims.{aimed}
use Rattle.summary_book.specs.Next.{IsSettled, slots_by}
use Rattle.summary_book.specs.Views.{slot_solution}
use Rattle.loaded_answers.specs.Lookup.{Agrees, lookup}
use Rattle.bottom_up.specs.BottomUp.{answers_in, known_by}
use Rattle.bottom_up.specs.Placed.{answers_kept}
use Rattle.settled_laws.specs.Laws.{AllAreAimed, CollectedAreKnown, CollectedAreMany, aimed_answers, aimed_known}
use Rattle.session_replies.specs.PlainAnswers.Solving.{AgreedAreLookedUp, solve}
use Rattle.session_replies.specs.PlainAnswers.Solving.{Solves}
use Rattle.worker_pool.specs.Entries.{AreEntries}
use Rattle.session_replies.specs.Work.{count_reached}

-- there are as many entries of an aim, whatever they hold
pub entries_many : (solves : Key → Answer → Type 0) → CollectedAreMany → (program : Program) (aim : Aim) (kept : List Kept) →
    AreEntries solves program aim kept → length kept ≡ count_reached program aim
entries_many solves many program aim kept are =
    many are.log aim (subst (λ (p : Program). IsSettled (replay are.log) (aimed p aim)) (sym are.program_is) are.settled) kept
    (are.kept_are ∙ ap (λ (p : Program). map slot_solution (slots_by (replay are.log) (aimed p aim))) (sym are.program_is)) ∙
    ap (λ (p : Program). count_reached p aim) are.program_is

-- entries that agree with the loaded ones are what is looked up
pub entries_known : CollectedAreKnown Solves → AgreedAreLookedUp →
    (loaded : List Solution) (program : Program) (aim : Aim) (kept : List Kept) →
    AreEntries Solves program aim kept → All (λ (one : Kept). Agrees loaded (solution_of one)) kept →
    solutions_of kept ≡ aimed_known (lookup solve loaded) program aim
entries_known collected agreed loaded program aim kept are agree =
    collected (lookup solve loaded) are.log are.legal aim
    (subst (λ (p : Program). IsSettled (replay are.log) (aimed p aim)) (sym are.program_is) are.settled) kept
    (are.kept_are ∙ ap (λ (p : Program). map slot_solution (slots_by (replay are.log) (aimed p aim))) (sym are.program_is))
    (λ i one lt. agreed loaded (solution_of (get_or kept i one)) (are.right i one lt).right (agree i one lt)) ∙
    ap (λ (p : Program). aimed_known (lookup solve loaded) p aim) are.program_is

answers_of_solutions : (kept : List Kept) → answers_in (solutions_of kept) ≡ answers_kept kept
answers_of_solutions [] = refl
answers_of_solutions (one ∷ kept) = ap (λ others. one.answer.value ∷ others) (answers_of_solutions kept)

-- the answers of the entries of an aim
pub answers_aimed : (answer_of : Key → Answer) (program : Program) (aim : Aim) (kept : List Kept) →
    solutions_of kept ≡ aimed_known answer_of program aim → answers_kept kept ≡ aimed_answers answer_of program aim
answers_aimed answer_of program aim kept are = sym (answers_of_solutions kept) ∙ ap answers_in are

-- those of all components
pub answers_known : (answer_of : Key → Answer) → AllAreAimed → (program : Program) (kept : List Kept) →
    solutions_of kept ≡ aimed_known answer_of program aims.All → answers_kept kept ≡ answers_in (known_by answer_of program)
answers_known answer_of aimed_all program kept are =
    answers_aimed answer_of program aims.All kept are ∙ ap answers_in (aimed_all answer_of program)
