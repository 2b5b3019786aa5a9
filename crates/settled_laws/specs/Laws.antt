-- What is settled is what is known of a program, where the collected entries have the answers that keys are given.
use Rattle.std.specs.Prelude.{◌≡◌, ◌↔◌, ℕ, ◌<◌, ◌≤◌, true, List, All, map, length, slice_get, is_some}
use Rattle.std.specs.List.{count_by, filter, filter_map, range_with_len}
use Rattle.shape_data.specs.declared.answer.Answer.{Answer}
use Rattle.shape_data.specs.declared.answer.Kept.{Kept}
use Rattle.shape_data.specs.declared.answer.Key.{Key}
use Rattle.shape_data.specs.declared.program.Program.{Program}
use Rattle.component_keys.specs.Keys.{program_components}
use Rattle.claim_core.specs.Views.{Solution, solution_of}
use Rattle.claim_laws.specs.World.{World, Event}
use Rattle.claim_laws.specs.Logs.{replay, IsLegal, published, settled_at}
use Rattle.summary_book.specs.declared.aims.Aim.{Aim}
use Rattle.summary_book.specs.declared.aims.Aim.TheVariants as aims
use Rattle.summary_book.specs.Aims.{aimed}
use Rattle.summary_book.specs.Next.{IsSettled, slots_by}
use Rattle.summary_book.specs.Views.{slot_solution}
use Rattle.bottom_up.specs.BottomUp.{answers_in, known_by}

-- each component of the present program is settled
abbrev pub AreSettled : World → Type 0
AreSettled world = (component : ℕ) → component < length (program_components world.program) → is_some (settled_at world component) ≡ true

-- that none is unsettled says that each is settled
abbrev pub SettledIsAll : Type 0
SettledIsAll = (world : World) → IsSettled world (aimed world.program aims.All) ↔ AreSettled world

-- what is known of the components that an aim reaches, callees first
abbrev pub aimed_known : (Key → Answer) → Program → Aim → List Solution
aimed_known answer_of program aim =
    filter_map (slice_get (known_by answer_of program))
    (filter (aimed program aim) (range_with_len 0 (length (program_components program))))

-- their answers
abbrev pub aimed_answers : (Key → Answer) → Program → Aim → List Answer
aimed_answers answer_of program aim = answers_in (aimed_known answer_of program aim)

-- each entry has the answer that its key is given
abbrev pub AreGiven : (Key → Answer) → List Kept → Type 0
AreGiven answer_of kept = All (λ (one : Kept). one.answer.value ≡ answer_of one.key.value) kept

-- where the components that an aim reaches are settled, what is collected of them is what is known, if it has the answers that keys are
-- given
abbrev pub CollectedAreKnown : (Key → Answer → Type 0) → Type 0
CollectedAreKnown solves =
    (answer_of : Key → Answer) (log : List Event) → IsLegal solves log → (aim : Aim) →
    IsSettled (replay log) (aimed (replay log).program aim) →
    (kept : List Kept) → map solution_of kept ≡ map slot_solution (slots_by (replay log) (aimed (replay log).program aim)) →
    AreGiven answer_of kept →
    map solution_of kept ≡ aimed_known answer_of (replay log).program aim

-- there is one entry for each component that the aim reaches, whatever it holds
abbrev pub CollectedAreMany : Type 0
CollectedAreMany =
    (log : List Event) (aim : Aim) → IsSettled (replay log) (aimed (replay log).program aim) →
    (kept : List Kept) → map solution_of kept ≡ map slot_solution (slots_by (replay log) (aimed (replay log).program aim)) →
    length kept ≡ count_by (aimed (replay log).program aim) (range_with_len 0 (length (program_components (replay log).program)))

-- the aim at all reaches all that is known
abbrev pub AllAreAimed : Type 0
AllAreAimed = (answer_of : Key → Answer) (program : Program) → aimed_known answer_of program aims.All ≡ known_by answer_of program

-- where the components that an aim reaches are settled, as many answers were published at least
abbrev pub SettledWerePublished : Type 0
SettledWerePublished =
    (log : List Event) (aim : Aim) → IsSettled (replay log) (aimed (replay log).program aim) →
    count_by (aimed (replay log).program aim) (range_with_len 0 (length (program_components (replay log).program))) ≤ published log
