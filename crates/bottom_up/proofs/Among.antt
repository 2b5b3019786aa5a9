-- The first summary of a name among answers, one after the other.
use Rattle.std.proofs.Common.{◌≡◌, ℕ, suc, ◌+◌, ◌<◌, List, ◌∷◌, length, drop, get_or, Some, None, Option, sym, ap, ◌∙◌, find, flat_map}
use Rattle.std.proofs.Common.{bytes_eq, arith}
use Rattle.std.specs.Option.{option_or}
use Rattle.std.proofs.lemmas.List.Folds.{find-append}
use Rattle.std.proofs.Math.Seq.{drop-cons}
use Rattle.shape_data.specs.declared.answer.Answer.{Answer}
use Rattle.shape_data.specs.declared.answer.Kept.{Kept}
use Rattle.shape_data.specs.declared.answer.ProcSummary.{ProcSummary}
use Rattle.bottom_up.specs.Placed.{answers_kept, summary_among}

module _ (kept : List Kept) (i : ℕ) (item : Kept) (name : List ℕ) (lt : i < length kept) (is : item ≡ get_or kept i item)
    (found : Option ProcSummary)
    (found_is : found ≡ find (λ (summary : ProcSummary). bytes_eq summary.name name) item.answer.value.procs) where
  abbrev rest : Option ProcSummary
  rest = summary_among (answers_kept (drop (i + 1) kept)) name

  split : summary_among (answers_kept (drop i kept)) name ≡ option_or found rest
  split =
      let next : suc i ≡ i + 1 = omega arith in
      ap (λ l. summary_among (answers_kept l) name)
      (drop-cons kept i item lt ∙ ap (λ x. x ∷ drop (suc i) kept) (sym is) ∙ ap (λ n. item ∷ drop n kept) next) ∙
      find-append (λ (summary : ProcSummary). bytes_eq summary.name name) item.answer.value.procs
      (flat_map (λ (answer : Answer). answer.procs) (answers_kept (drop (i + 1) kept))) ∙
      ap (λ o. option_or o rest) (sym found_is)

  -- it is in this one
  pub found_here : (summary : ProcSummary) → found ≡ Some summary → summary_among (answers_kept (drop i kept)) name ≡ Some summary
  found_here summary here = split ∙ ap (λ o. option_or o rest) here

  -- it is in none before the next
  pub found_later : found ≡ None → summary_among (answers_kept (drop (i + 1) kept)) name ≡ summary_among (answers_kept (drop i kept)) name
  found_later none = sym (split ∙ ap (λ o. option_or o rest) none)
