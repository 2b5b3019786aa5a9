-- The entries of procedures, one more and all.
use Rattle.std.proofs.Common.{◌≡◌, ℕ, suc, ◌+◌, ◌<◌, true, false, List, [], ◌∷◌, ◌++◌, Option, Some, None, length, map, take, get_or}
use Rattle.std.proofs.Common.{filter_map, refl, sym, ap, ap₂, ◌∙◌, arith}
use Rattle.std.specs.Prelude.{All, IsSome}
use Rattle.std.specs.List.{cons_option}
use Rattle.std.proofs.lemmas.List.{length-take, take_more}
use Rattle.std.proofs.lemmas.List.Elements.{All-head, All-tail, All-take}
use Rattle.bottom_up.proofs.ListPlaces.{mapped_more}
use Rattle.reporters.specs.declared.reporter.Entry.{Entry}
use Rattle.shape_data.specs.declared.answer.ProcSummary.{ProcSummary}
use Rattle.shape_data.specs.declared.program.Proc.{Proc}
use Rattle.session_replies.specs.Entries.{entries_over, entry_of, summary_told}

-- one procedure more, and its summary
entries_end : (procs : List Proc) (summaries : List ProcSummary) (proc : Proc) (summary : ProcSummary) → length procs ≡ length summaries →
    entries_over (procs ++ proc ∷ []) (summaries ++ summary ∷ []) ≡ entries_over procs summaries ++ entry_of proc summary ∷ []
entries_end [] [] proc summary same = refl
entries_end [] (first ∷ summaries) proc summary same = absurd (omega (arith, same))
entries_end (first ∷ procs) [] proc summary same = absurd (omega (arith, same))
entries_end (first ∷ procs) (own ∷ summaries) proc summary same =
    ap (λ others. entry_of first own ∷ others) (entries_end procs summaries proc summary (omega (arith, same)))

-- what is there for each is as long
all_there : {A B : Type 0} (f : A → Option B) (xs : List A) → All (λ x. IsSome (f x)) xs → length (filter_map f xs) ≡ length xs
all_there f [] all = refl
all_there f (x ∷ xs) all =
    by_one (f x) refl (All-head (λ x. IsSome (f x)) x xs all) (all_there f xs (All-tail (λ x. IsSome (f x)) x xs all))
  where
    by_one : (o : Option _) → f x ≡ o → IsSome o → length (filter_map f xs) ≡ length xs → length (filter_map f (x ∷ xs)) ≡ suc (length xs)
    by_one None is some others = let clash : false ≡ true = some in absurd cc
    by_one (Some y) is some others = ap (λ o. length (cons_option o (filter_map f xs))) is ∙ ap suc others

-- the entry of one place more
pub told_more : {A : Type 0} (f : A → Option ProcSummary) (procs : List Proc) (places : List A) (n : ℕ) (proc : Proc) (place : A)
    (entry : Entry) → length places ≡ length procs →
    All (λ place. IsSome (f place)) places → n < length places → proc ≡ get_or procs n proc →
    f (get_or places n place) ≡ Some entry.summary → entry ≡ entry_of proc entry.summary →
    entries_over (take n procs) (filter_map f (take n places)) ++ entry ∷ []
    ≡ entries_over (take (n + 1) procs) (filter_map f (take (n + 1) places))
told_more f procs places n proc place entry same all lt is at made =
    let here : n < length procs = omega (arith, same, lt) in
    let of_procs = length-take n procs in
    let of_places = length-take n places in
    let there = all_there f (take n places) (All-take (λ place. IsSome (f place)) n places all) in
    let long : length (take n procs) ≡ length (filter_map f (take n places)) = omega (arith, of_procs, of_places, there, lt, same) in
    ap (λ e. entries_over (take n procs) (filter_map f (take n places)) ++ e ∷ []) made ∙
    sym (entries_end (take n procs) (filter_map f (take n places)) proc entry.summary long) ∙
    sym (ap₂ entries_over (take_more procs n proc here ∙ ap (λ p. take n procs ++ p ∷ []) (sym is))
    (mapped_more f places n place entry.summary lt at))

-- entries have the summaries that they were made of
pub summaries_told : (procs : List Proc) (summaries : List ProcSummary) → length summaries ≡ length procs →
    map summary_told (entries_over procs summaries) ≡ summaries
summaries_told procs [] same = by_procs procs
  where
    by_procs : (procs : List Proc) → map summary_told (entries_over procs []) ≡ []
    by_procs [] = refl
    by_procs (proc ∷ procs) = refl
summaries_told [] (summary ∷ summaries) same = absurd (omega (arith, same))
summaries_told (proc ∷ procs) (summary ∷ summaries) same =
    ap (λ others. summary ∷ others) (summaries_told procs summaries (omega (arith, same)))
