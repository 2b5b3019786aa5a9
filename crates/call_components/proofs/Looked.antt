-- The classes that wait, in the words of the code.
use Rattle.std.proofs.Common.{◌≡◌, ℕ, zero, suc, ◌+◌, ◌<◌, ◌==◌, Bool, true, false, not, List, [], ◌∷◌, ◌++◌, length, map, replicate}
use Rattle.std.proofs.Common.{get_or, set, Result, Ok, Err, OnOk, ⊎_elim, sym, ap, ◌∙◌, subst, arith, All}
use Rattle.std.specs.Global.{Vec}
use Rattle.std.proofs.lemmas.List.{length-map, map-set}
use Rattle.std.proofs.lemmas.List.Folds.{list_any-append}
use Rattle.std.proofs.lemmas.Option.{slice_get-get_or}
use Rattle.component_keys.specs.Components.{holds, calls_of}
use Rattle.component_keys.proofs.Basics.{one_true}
use Rattle.component_keys.proofs.Reach.{holds_at, holds_left, holds_end, holds_cases}
use Rattle.component_keys.proofs.Whole.{filtered}
use Rattle.call_components.specs.Reaching.{AreDefined, rows}
use Rattle.call_components.specs.Sorting.{below}
use Rattle.call_components.specs.Tables.{same_kind}
use Rattle.call_components.specs.Waiting.{AreHeld, AreNeeded, calls_outside, outside_of}
use Rattle.call_components.proofs.Held.{first_held, look_ready, look_waits, needs_own, none_held, same_or_not, set_else, set_there, woken}
use Rattle.call_components.proofs.Walk.{row_of}

-- what a clause on success says
pub on_ok : {X E : Type 0} (r : Result X E) (P Q : Type 0) → (P → Q) → OnOk r P → OnOk r Q
on_ok (Ok x) P Q f p = f p
on_ok (Err e) P Q f p = tt

rows_set : (lists : List (Vec ℕ)) (place : ℕ) (row : Vec ℕ) → rows (set lists place row) ≡ set (rows lists) place row.items
rows_set lists place row = map-set (λ (r : Vec ℕ). r.items) lists place row

within_rows : (lists : List (Vec ℕ)) (place : ℕ) → place < length lists → place < length (rows lists)
within_rows lists place lt = let same : length (rows lists)
    ≡ length lists = length-map lists (λ (r : Vec ℕ). r.items) in omega (arith, same, lt)

-- ---- a class is looked at

module _ (marks : List Bool) (needs : List (Vec ℕ)) (place : ℕ) (row after : Vec ℕ) (lt : place < length needs)
    (is : row ≡ get_or needs place row) (fewer : AreNeeded marks row.items after.items) where
  fewer_there : AreNeeded marks (calls_of (rows needs) place) after.items
  fewer_there = subst (λ l. AreNeeded marks l after.items) (sym (row_of needs place row lt is)) fewer

  pub needs_bounded : (bound : ℕ) → ((other number : ℕ) → holds (calls_of (rows needs) other) number ≡ true → number < bound) →
      (other number : ℕ) → holds (calls_of (rows (set needs place after)) other) number ≡ true → number < bound
  needs_bounded bound old other number h =
      old other number
      (needs_own marks (rows needs) place after.items (within_rows needs place lt) fewer_there other number
      (subst (λ l. holds (calls_of l other) number ≡ true) (rows_set needs place after) h))

  -- who is missing is one of a row
  pub missing_bounded : (bound number : ℕ) → ((other n : ℕ) → holds (calls_of (rows needs) other) n ≡ true → n < bound) →
      holds after.items number ≡ true → number < bound
  missing_bounded bound number old there = old place number (fewer_there.own number there)

  pub looked_ready : (waits : List (Vec ℕ)) (ready ready_now : List ℕ) → after.items ≡ [] →
      ((other : ℕ) → holds ready_now other ≡ holds (place ∷ ready) other) → (all outs : List (List ℕ)) (wakes rest : List ℕ) →
      AreHeld all outs marks wakes (place ∷ rest) (rows needs) (rows waits) ready →
      AreHeld all outs marks wakes rest (rows (set needs place after)) (rows waits) ready_now
  looked_ready waits ready ready_now none added all outs wakes rest old =
      subst (λ l. AreHeld all outs marks wakes rest l (rows waits) ready_now) (sym (rows_set needs place after))
      (look_ready all outs marks wakes rest (rows needs) (rows waits) ready place after.items
      (within_rows needs place lt) fewer_there old ready_now none added)

  pub looked_waits : (waits : List (Vec ℕ)) (ready : List ℕ) (number : ℕ) (before now : Vec ℕ) → number < length waits →
      before ≡ get_or waits number before → now.items ≡ before.items ++ place ∷ [] → holds after.items number ≡ true →
      get_or marks number false ≡ false → (all outs : List (List ℕ)) (wakes rest : List ℕ) →
      AreHeld all outs marks wakes (place ∷ rest) (rows needs) (rows waits) ready →
      AreHeld all outs marks wakes rest (rows (set needs place after)) (rows (set waits number now)) ready
  looked_waits waits ready number before now within was added there unmarked all outs wakes rest old =
      let now_is : now.items ≡ calls_of (rows waits) number ++ place ∷ [] =
      added ∙ ap (λ l. l ++ place ∷ []) (sym (row_of waits number before within was)) in
      subst (λ l. AreHeld all outs marks wakes rest l (rows (set waits number now)) ready) (sym (rows_set needs place after))
      (subst (λ l. AreHeld all outs marks wakes rest (set (rows needs) place after.items) l ready)
      (sym (rows_set waits number now ∙ ap (set (rows waits) number) now_is))
      (look_waits all outs marks wakes rest (rows needs) (rows waits) ready place after.items
      (within_rows needs place lt) fewer_there old number (within_rows waits number within) there unmarked))

pub waits_bounded : (waits : List (Vec ℕ)) (number place : ℕ) (before now : Vec ℕ) (bound : ℕ) → number < length waits →
    before ≡ get_or waits number before → now.items ≡ before.items ++ place ∷ [] → place < bound →
    ((n other : ℕ) → holds (calls_of (rows waits) n) other ≡ true → other < bound) → (n other : ℕ) →
    holds (calls_of (rows (set waits number now)) n) other ≡ true → other < bound
waits_bounded waits number place before now bound within was added lt old n other h =
    ⊎_elim
    (λ same.
    let there : holds (before.items ++ place ∷ []) other ≡ true =
    subst (λ l. holds l other ≡ true)
    (ap (λ k. calls_of (rows (set waits number now)) k) (sym same) ∙ ap (λ l. calls_of l number) (rows_set waits number now)
    ∙ set_there (rows waits) number now.items (within_rows waits number within) ∙ added) h in
    ⊎_elim (λ e. old number other (subst (λ l. holds l other ≡ true) (sym (row_of waits number before within was)) e))
    (λ e. subst (λ k. k < bound) (sym e) lt) (holds_cases before.items place other there))
    (λ differ. old n other
    (subst (λ l. holds l other ≡ true)
    (ap (λ l. calls_of l n) (rows_set waits number now) ∙ set_else (rows waits) number n now.items differ) h))
    (same_or_not number n)

-- ---- those that wait for a number are looked at

pub waits_cut : (waits : List (Vec ℕ)) (number : ℕ) (now : Vec ℕ) (bound : ℕ) → number < length waits → now.items ≡ [] →
    ((n other : ℕ) → holds (calls_of (rows waits) n) other ≡ true → other < bound) →
    (n other : ℕ) → holds (calls_of (rows (set waits number now)) n) other ≡ true → other < bound
waits_cut waits number now bound within none old n other h =
    ⊎_elim
    (λ same.
    none_held other
    (subst (λ l. holds l other ≡ true)
    (ap (λ k. calls_of (rows (set waits number now)) k) (sym same) ∙ ap (λ l. calls_of l number) (rows_set waits number now)
    ∙ set_there (rows waits) number now.items (within_rows waits number within) ∙ none) h))
    (λ differ. old n other
    (subst (λ l. holds l other ≡ true)
    (ap (λ l. calls_of l n) (rows_set waits number now) ∙ set_else (rows waits) number n now.items differ) h))
    (same_or_not number n)

pub all_below : (bound : ℕ) (numbers : List ℕ) → ((number : ℕ) → holds numbers number ≡ true → number < bound) →
    All (λ number. number < bound) numbers
all_below bound numbers each k d lt = each (get_or numbers k d) (holds_at numbers k (get_or numbers k d) (slice_get-get_or numbers k d lt))

pub woken_rows : (all outs : List (List ℕ)) (marks : List Bool) (wakes : List ℕ) (number : ℕ) (needs : List (List ℕ)) (waits : List (Vec ℕ))
    (ready : List ℕ) (before now : Vec ℕ) → number < length waits → before ≡ get_or waits number before →
    now.items ≡ [] → AreHeld all outs marks (number ∷ wakes) [] needs (rows waits) ready →
    AreHeld all outs marks wakes before.items needs (rows (set waits number now)) ready
woken_rows all outs marks wakes number needs waits ready before now within was none old =
    subst (λ l. AreHeld all outs marks wakes before.items needs l ready)
    (sym (rows_set waits number now ∙ ap (set (rows waits) number) none))
    (subst (λ l. AreHeld all outs marks wakes l needs (set (rows waits) number []) ready) (row_of waits number before within was)
    (woken all outs marks wakes number needs (rows waits) ready (within_rows waits number within) old))

-- ---- at first

below_holds : (n place : ℕ) → place < n → holds (below n) place ≡ true
below_holds zero place lt = absurd (omega (arith, lt))
below_holds (suc n) place lt =
    ⊎_elim (λ same. subst (λ k. holds (below n ++ n ∷ []) k ≡ true) same (holds_end (below n) n))
    (λ differ. holds_left (below n) n place (below_holds n place (omega (arith, lt, differ)))) (same_or_not n place)

below_less : (n place : ℕ) → holds (below n) place ≡ true → place < n
below_less zero place h = none_held place h
below_less (suc n) place h =
    ⊎_elim (λ e. let less : place < n = below_less n place e in omega (arith, less)) (λ same. omega (arith, same))
    (holds_cases (below n) n place h)

pub all_places_below : (n : ℕ) → All (λ place. place < n) (below n)
all_places_below n = all_below n (below n) (below_less n)

outside_less : (kinds : List ℕ) (calls : List (List ℕ)) → AreDefined calls → (class : List ℕ) (number : ℕ) →
    holds (outside_of kinds calls class) number ≡ true → number < length calls
outside_less kinds calls defined [] number h = none_held number h
outside_less kinds calls defined (one ∷ class) number h =
    ⊎_elim
    (λ e. defined one number (filtered (λ callee. not (same_kind kinds callee one)) (calls_of calls one) number e).1)
    (outside_less kinds calls defined class number)
    (one_true (holds (calls_outside kinds calls one) number) (holds (outside_of kinds calls class) number)
    (sym (list_any-append (λ other. other == number) (calls_outside kinds calls one) (outside_of kinds calls class)) ∙ h))

pub outs_bounded : (kinds : List ℕ) (calls : List (List ℕ)) → AreDefined calls → (all : List (List ℕ)) (place number : ℕ) →
    holds (calls_of (map (outside_of kinds calls) all) place) number ≡ true → number < length calls
outs_bounded kinds calls defined [] place number h = none_held number h
outs_bounded kinds calls defined (class ∷ all) zero number h = outside_less kinds calls defined class number h
outs_bounded kinds calls defined (class ∷ all) (suc place) number h = outs_bounded kinds calls defined all place number h

pub no_waits : (n number other : ℕ) (A : Type 0) → holds (calls_of (replicate n []) number) other ≡ true → A
no_waits zero number other A h = none_held other h
no_waits (suc n) zero other A h = none_held other h
no_waits (suc n) (suc number) other A h = no_waits n number other A h

pub first_rows : (all outs : List (List ℕ)) (marks : List Bool) (rest : List ℕ) (needs waits : List (List ℕ)) (ready : List ℕ) (count : ℕ) →
    rest ≡ below (length all) → needs ≡ outs → waits ≡ replicate count [] → ready ≡ [] →
    AreHeld all outs marks [] rest needs waits ready
first_rows all outs marks rest needs waits ready count is_rest is_needs is_waits is_ready =
    subst (λ l. AreHeld all outs marks [] rest needs waits l) (sym is_ready)
    (subst (λ l. AreHeld all outs marks [] rest needs l []) (sym is_waits)
    (subst (λ l. AreHeld all outs marks [] rest l (replicate count []) []) (sym is_needs)
    (first_held all outs marks rest count
    (λ place lt. subst (λ l. holds l place ≡ true) (sym is_rest) (below_holds (length all) place lt)))))
