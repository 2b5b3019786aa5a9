-- Which program is present once one was met, and what is next then.
use Rattle.std.proofs.Common.{◌≡◌, ◌+◌, ◌==◌, ◌&&◌, ℕ, Bool, true, false, not, cond, List, ◌++◌, map, refl, sym, ap, ◌∙◌, subst, append-nil}
use Rattle.std.proofs.Common.{inr}
use Rattle.std.proofs.lemmas.Bool.Decides.{Decides-eqb}
use Rattle.std.specs.Prelude.{IfOk}
use Rattle.std.specs.declared.alloc.AllocError.{AllocError}
use Rattle.std.specs.declared.result.Result.{Result}
use Rattle.std.specs.declared.result.Result.TheVariants.{Ok, Err}
use Rattle.shape_data.specs.declared.answer.Answer.{Answer}
use Rattle.shape_data.specs.declared.answer.Kept.{Kept}
use Rattle.shape_data.specs.declared.answer.Key.{Key}
use Rattle.shape_data.specs.declared.program.Program.{Program}
use Rattle.component_keys.specs.Tests.{program_test}
use Rattle.claim_laws.specs.World.{Event, World, after, happened, may_happen}
use Rattle.claim_laws.specs.Logs.{published, replay}
use Rattle.claim_laws.proofs.Push.{replay_push}
use Rattle.summary_book.specs.declared.answers.Met.{Met}
use Rattle.summary_book.specs.declared.answers.Met.TheVariants.{Same, Revised}
use Rattle.summary_book.specs.declared.answers.Next.{Next}
use Rattle.summary_book.specs.declared.answers.Next.TheVariants.{Yours, Waits, All}
use Rattle.summary_book.specs.declared.aims.Aim.{Aim}
use Rattle.summary_book.specs.Aims.{aimed}
use Rattle.summary_book.specs.Book.{met_by, met_events}
use Rattle.summary_book.specs.Next.{IsNext, events_by, slots_by}
use Rattle.summary_book.specs.Views.{slot_solution}
use Rattle.claim_core.specs.Views.{solution_of}
use Rattle.worker_pool.specs.Entries.{AreEntries}
use Rattle.worker_pool.specs.declared.turn.Turn.{Turn}
use Rattle.worker_pool.specs.declared.turn.Turn.TheVariants as turn
use Rattle.worker_pool.specs.Turns.{AreCollected, GoesOn, leader, met_log, next_in}

abbrev revision_of : Met → ℕ
revision_of Same = 0
revision_of (Revised revision) = revision

abbrev is_revised : Met → Bool
is_revised Same = false
is_revised (Revised revision) = true

-- where it is the same, it was present
pub same_is_present : (world : World) (program : Program) → Same ≡ met_by world program → world.program ≡ program
same_is_present world program is = by_test (program_test.0 program world.program) refl is
  where
    by_test : (b : Bool) → program_test.0 program world.program ≡ b → Same ≡ cond b Same (Revised (world.revision + 1)) →
        world.program ≡ program
    by_test true e same = sym ((program_test.1 program world.program).0 e)
    by_test false e same = absurd (let never : false ≡ true = ap is_revised same in cc)

-- where it is another one, it is present from then on
revised_is_present : (world : World) (program : Program) (revision : ℕ) → Revised revision ≡ met_by world program →
    (after world (Event.Revise revision program)).program ≡ program
revised_is_present world program revision is = by_test (program_test.0 program world.program) refl is
  where
    by_test : (b : Bool) → program_test.0 program world.program ≡ b → Revised revision ≡ cond b Same (Revised (world.revision + 1)) →
        (after world (Event.Revise revision program)).program ≡ program
    by_test true e revised = absurd (let never : true ≡ false = ap is_revised revised in cc)
    by_test false e revised =
        let may : may_happen world (Event.Revise revision program) ≡ true =
        ap (λ b. not b && (revision == world.revision + 1)) e ∙ (Decides-eqb revision (world.revision + 1)).1 (ap revision_of revised) in
        ap (λ b. (cond b (happened world (Event.Revise revision program)) world).program) may

pub met_is_present : (old new : List Event) (program : Program) (met : Met) → met ≡ met_by (replay old) program →
    new ≡ old ++ met_events program met → (replay new).program ≡ program
met_is_present old new program Same is log = let same : new ≡ old = log ∙ append-nil old in ap (λ l. (replay l).program) same ∙
    same_is_present (replay old) program is
met_is_present old new program (Revised revision) is log =
    let now : replay new ≡ after (replay old) (Event.Revise revision program) = ap replay log ∙
    replay_push old (Event.Revise revision program) in
    ap (λ (w : World). w.program) now ∙ revised_is_present (replay old) program revision is

pub is_present_after : (r : Result Met AllocError) (old new : List Event) (program : Program) →
    IfOk r (λ met. met ≡ met_by (replay old) program) → IfOk r (λ met. new ≡ old ++ met_events program met) →
    IfOk r (λ met. (replay new).program ≡ program)
is_present_after (Ok met) old new program is log = met_is_present old new program met is log
is_present_after (Err e) old new program is log = tt

-- ---- what is next

-- a claim leaves the program present
still_claimed : (world : World) (number worker component : ℕ) (key : Key) →
    (after world (Event.Claim number worker component key)).program ≡ world.program
still_claimed world number worker component key = by_test (may_happen world (Event.Claim number worker component key))
  where
    by_test : (b : Bool) → (cond b (happened world (Event.Claim number worker component key)) world).program ≡ world.program
    by_test true = refl
    by_test false = refl

pub still_present : (log later : List Event) (worker : ℕ) (next : Next) → later ≡ log ++ events_by worker next →
    (replay later).program ≡ (replay log).program
still_present log later worker (Yours claim) is =
    let claimed : replay later ≡ after (replay log) (Event.Claim claim.number worker claim.component claim.key) =
    ap replay is ∙ replay_push log (Event.Claim claim.number worker claim.component claim.key) in
    ap (λ (w : World). w.program) claimed ∙ still_claimed (replay log) claim.number worker claim.component claim.key
still_present log later worker (Waits number) is = ap (λ l. (replay l).program) (is ∙ append-nil log)
still_present log later worker All is = ap (λ l. (replay l).program) (is ∙ append-nil log)

-- what is next in the world of a log is so in that of a log that is the same
pub next_once_met : (log later : List Event) (program : Program) (aim : Aim) (one other : Next) → later ≡ met_log log program →
    (replay later).program ≡ program → one ≡ other → IsNext (replay later) (aimed (replay later).program aim) one →
    IsNext (replay (met_log log program)) (aimed program aim) other
next_once_met log later program aim one other is present same next =
    subst (λ l. IsNext (replay l) (aimed program aim) other) is
    (subst (λ (p : Program). IsNext (replay later) (aimed p aim) other) present
    (subst (λ (n : Next). IsNext (replay later) (aimed (replay later).program aim) n) same next))

-- where nothing is left, no event is added
pub all_once_met : (log mid later : List Event) (program : Program) (worker : ℕ) (next : Next) → mid ≡ met_log log program → next ≡ All →
    later ≡ mid ++ events_by worker next → later ≡ met_log log program
all_once_met log mid later program worker next met same is =
    is ∙ ap (λ (n : Next). mid ++ events_by worker n) same ∙ append-nil mid ∙ met

pub collected_once_met : (solves : Key → Answer → Type 0) (log later : List Event) (program : Program) (aim : Aim) (seen : ℕ)
    (kept : List Kept) →
    later ≡ met_log log program → (replay later).program ≡ program → AreEntries solves (replay later).program aim kept →
    map solution_of kept ≡ map slot_solution (slots_by (replay later) (aimed (replay later).program aim)) → seen ≡ published later →
    AreCollected solves (met_log log program) program aim seen kept
collected_once_met solves log later program aim seen kept is present entries slots seen_is = record {
  entries = subst (λ (p : Program). AreEntries solves p aim kept) present entries;
  slots = subst (λ l. map solution_of kept ≡ map slot_solution (slots_by (replay l) (aimed program aim))) is
      (subst (λ (p : Program). map solution_of kept ≡ map slot_solution (slots_by (replay later) (aimed p aim))) present slots);
  seen_is = seen_is ∙ ap published is;
}

-- a turn is one way to go on
goes_once_met : {E : Type 0} (r : Result Turn E) (log later : List Event) (program : Program) (aim : Aim) →
    IfOk r (λ turn. later ≡ met_log log program ++ events_by leader (next_in turn)) →
    IfOk r (λ turn. IsNext (replay (met_log log program)) (aimed program aim) (next_in turn)) →
    IfOk r (λ turn. GoesOn log later program aim turn)
goes_once_met (Ok (turn.Done kept)) log later program aim is next = is ∙ append-nil (met_log log program)
goes_once_met (Ok (turn.Yours claim)) log later program aim is next = inr (is, next)
goes_once_met (Ok (turn.Waits claim)) log later program aim is next = inr (is, next)
goes_once_met (Err e) log later program aim is next = tt

pub goes_by_turn : {E : Type 0} (r : Result Turn E) (log mid later : List Event) (program : Program) (aim : Aim) → mid ≡ log →
    IfOk r (λ turn. later ≡ met_log mid program ++ events_by leader (next_in turn)) →
    IfOk r (λ turn. IsNext (replay (met_log mid program)) (aimed program aim) (next_in turn)) →
    IfOk r (λ turn. GoesOn log later program aim turn)
goes_by_turn r log mid later program aim same is next =
    subst (λ l. IfOk r (λ turn. GoesOn l later program aim turn)) same (goes_once_met r mid later program aim is next)

pub nothing_next : (log later : List Event) (worker : ℕ) (next : Next) → next ≡ All → later ≡ log ++ events_by worker next → later ≡ log
nothing_next log later worker next same is = is ∙ ap (λ (n : Next). log ++ events_by worker n) same ∙ append-nil log
