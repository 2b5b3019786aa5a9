-- The summaries at the places that are found by procedures' names are those of the procedures.
use Rattle.std.proofs.Common.{◌≡◌, List, [], ◌∷◌, length, map, Some, Option, refl, sym, ap, ◌∙◌, subst, filter_map, option_map, All, IsSome}
use Rattle.std.specs.List.{cons_option}
use Rattle.std.proofs.lemmas.List.{length-map}
use Rattle.std.proofs.lemmas.List.Elements.{All-map}
use Rattle.std.proofs.lemmas.List.Folds.{flat_map-map}
use Rattle.std.proofs.lemmas.Option.{slice_get-map}
use Rattle.shape_data.specs.declared.answer.Answer.{Answer}
use Rattle.shape_data.specs.declared.answer.Key.{Key}
use Rattle.shape_data.specs.declared.program.Proc.{Proc}
use Rattle.shape_data.specs.declared.program.Program.{Program}
use Rattle.shape_data.specs.WellFormed.{IsAnswer, IsKey, IsProgram, Limits}
use Rattle.claim_laws.proofs.Invariant.{all_at}
use Rattle.key_laws.proofs.Elements.{all_of}
use Rattle.claim_core.specs.Views.{Solution}
use Rattle.bottom_up.specs.BottomUp.{all_summaries, answers_in, known_by, summaries_for}
use Rattle.bottom_up.specs.declared.places.Place.{Place}
use Rattle.bottom_up.specs.Placed.{first_named, summaries_in, summary_among, summary_in}
use Rattle.bottom_up.proofs.ProceduresByName.{each_summarized}

-- ---- what a function gives of each element

all_unmapped : {X Y : Type 0} (P : Y → Type 0) (f : X → Y) (xs : List X) → All P (map f xs) → All (λ x. P (f x)) xs
all_unmapped P f xs each =
    all_of (λ x. P (f x)) xs (λ i x at. all_at P (map f xs) i (f x) each (slice_get-map f xs i ∙ ap (option_map f) at))

given_of : {X Y : Type 0} (f : X → Option Y) (xs : List X) → filter_map (λ o. o) (map f xs) ≡ filter_map f xs
given_of f [] = refl
given_of f (x ∷ xs) = ap (cons_option (f x)) (given_of f xs)

-- ---- the summaries of names among answers

module _ (answers : List Answer) (places : List Place) (procs : List Proc)
    (are : map (summary_in answers) places ≡ map (λ (proc : Proc). summary_among answers proc.flow.name) procs) where
  pub one_place_each : length places ≡ length procs
  one_place_each = sym (length-map places (summary_in answers)) ∙ ap length are
      ∙ length-map procs (λ (proc : Proc). summary_among answers proc.flow.name)

  pub all_are_there : All (λ (proc : Proc). IsSome (summary_among answers proc.flow.name)) procs
      → All (λ place. IsSome (summary_in answers place)) places
  all_are_there named =
      all_unmapped (λ o. IsSome o) (summary_in answers) places
      (subst (All (λ o. IsSome o)) (sym are) (All-map (λ o. IsSome o) (λ (proc : Proc). summary_among answers proc.flow.name) procs named))

  pub summaries_are : filter_map (summary_in answers) places ≡ filter_map (λ (proc : Proc). summary_among answers proc.flow.name) procs
  summaries_are =
      sym (given_of (summary_in answers) places) ∙ ap (filter_map (λ o. o)) are
      ∙ given_of (λ (proc : Proc). summary_among answers proc.flow.name) procs

-- ---- the summaries of what is known

known_are : (known : List Solution) → summaries_in (answers_in known) ≡ all_summaries known
known_are known = flat_map-map (λ (answer : Answer). answer.procs) (λ (one : Solution). one.answer) known

-- the answers are those of what is known
module _ (limits : Limits) (answer_of : Key → Answer) (answers_fit : (key : Key) → IsKey limits key → IsAnswer limits key (answer_of key))
    (program : Program) (formed : IsProgram program)
    (answers : List Answer) (same : answers ≡ answers_in (known_by answer_of program)) where
  -- each procedure's name has a summary
  pub all_are_named : All (λ (proc : Proc). IsSome (summary_among answers proc.flow.name)) program.procs
  all_are_named =
      all_of (λ (proc : Proc). IsSome (summary_among answers proc.flow.name)) program.procs
      (λ number proc at.
      let own = each_summarized limits answer_of answers_fit program formed number proc at in
      let named : summary_among answers proc.flow.name ≡ Some own.summary =
      ap (λ a. summary_among a proc.flow.name) same ∙ ap (λ all. first_named all proc.flow.name) (known_are (known_by answer_of program))
      ∙ own.found in
      subst (λ o. IsSome o) (sym named) refl)

  -- which is what is known of the procedure
  pub summaries_known : filter_map (λ (proc : Proc). summary_among answers proc.flow.name) program.procs
      ≡ summaries_for (known_by answer_of program) program.procs
  summaries_known =
      ap (λ a. filter_map (λ (proc : Proc). summary_among a proc.flow.name) program.procs) same ∙
      ap (λ all. filter_map (λ (proc : Proc). first_named all proc.flow.name) program.procs) (known_are (known_by answer_of program))
