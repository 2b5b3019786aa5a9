-- The classes that wait, and those that are ready.
use Rattle.std.proofs.Common.{◌≡◌, ◌≢◌, ℕ, ◌+◌, ◌<◌, ◌≤◌, ◌==◌, Bool, true, false, ◌&&◌, ◌||◌, not, List, [], ◌∷◌, ◌++◌, length, map}
use Rattle.std.proofs.Common.{filter, find, replicate, slice_get, get_or, set, None, ◌⊎◌, inl, inr, ⊎_elim, true≢false, refl, sym, ap, ◌∙◌}
use Rattle.std.proofs.Common.{subst, arith}
use Rattle.std.specs.List.{list_any, list_all}
use Rattle.std.proofs.lemmas.Bool.Decides.{Decides-eqb}
use Rattle.std.proofs.lemmas.List.{get_or-set_same, get_or-set_other, get_or-map}
use Rattle.std.proofs.lemmas.List.Folds.{list_all-append}
use Rattle.component_keys.specs.Components.{holds, calls_of}
use Rattle.component_keys.proofs.Basics.{both_true, one_true, not_true}
use Rattle.component_keys.proofs.Ordered.{held_at, each_passes}
use Rattle.component_keys.proofs.Reach.{any_passes, holds_at, holds_left, holds_end}
use Rattle.component_keys.proofs.Whole.{all_pass, both_are, left_or, right_or}
use Rattle.call_components.specs.Reaching.{marked}
use Rattle.call_components.specs.Tables.{AreAllMarked, is_next_in, same_kind}
use Rattle.call_components.specs.Waiting.{AreHeld, AreNeeded, IsFirst, IsHeld, IsTaken, calls_outside, is_listed, outside_of}
use Rattle.call_components.specs.Waiting.IsHeld.{IsListed, IsReady, IsLeft, IsWaiting}
use Rattle.call_components.proofs.ListedByMarks.{any_more, find_at, find_none}

-- ---- rows

pub same_or_not : (i j : ℕ) → (i ≡ j) ⊎ (i ≢ j)
same_or_not i j = by_test (i == j) refl
  where
    by_test : (b : Bool) → (i == j) ≡ b → (i ≡ j) ⊎ (i ≢ j)
    by_test true e = inl ((Decides-eqb i j).0 e)
    by_test false e = inr (λ same. true≢false (sym ((Decides-eqb i j).1 same) ∙ e))

pub set_there : (lists : List (List ℕ)) (place : ℕ) (list : List ℕ) → place < length lists → calls_of (set lists place list) place ≡ list
set_there lists place list lt = get_or-set_same lists place list [] lt

pub set_else : (lists : List (List ℕ)) (place other : ℕ) (list : List ℕ) → place ≢ other →
    calls_of (set lists place list) other ≡ calls_of lists other
set_else lists place other list differ = get_or-set_other lists place other list [] (λ same. differ (sym same))

pub none_held : {A : Type 0} (number : ℕ) → holds [] number ≡ true → A
none_held number h = absurd (true≢false (sym h))

pub first_or_rest : (first : ℕ) (rest : List ℕ) (number : ℕ) → holds (first ∷ rest) number ≡ true →
    (first ≡ number) ⊎ (holds rest number ≡ true)
first_or_rest first rest number h =
    ⊎_elim (λ e. inl ((Decides-eqb first number).0 e)) (λ e. inr e) (one_true (first == number) (holds rest number) h)

pub is_first_held : (first : ℕ) (rest : List ℕ) (number : ℕ) → first ≡ number → holds (first ∷ rest) number ≡ true
is_first_held first rest number same = left_or (first == number) (holds rest number) ((Decides-eqb first number).1 same)

-- ---- a row without some that are listed

module _ (marks : List Bool) (needs : List (List ℕ)) (place : ℕ) (row : List ℕ) (lt : place < length needs)
    (fewer : AreNeeded marks (calls_of needs place) row) where
  pub needs_own : (other number : ℕ) → holds (calls_of (set needs place row) other) number ≡ true →
      holds (calls_of needs other) number ≡ true
  needs_own other number h =
      ⊎_elim
      (λ same. subst (λ n. holds (calls_of needs n) number ≡ true) same
      (fewer.own number
      (subst (λ l. holds l number ≡ true) (set_there needs place row lt)
      (subst (λ n. holds (calls_of (set needs place row) n) number ≡ true) (sym same) h))))
      (λ differ. subst (λ l. holds l number ≡ true) (set_else needs place other row differ) h)
      (same_or_not place other)

  pub needs_kept : (other number : ℕ) → holds (calls_of needs other) number ≡ true →
      (marked marks number ≡ true) ⊎ (holds (calls_of (set needs place row) other) number ≡ true)
  needs_kept other number h =
      ⊎_elim
      (λ same. ⊎_elim (λ e. inl e)
      (λ e. inr (subst (λ n. holds (calls_of (set needs place row) n) number ≡ true) same
      (subst (λ l. holds l number ≡ true) (sym (set_there needs place row lt)) e)))
      (fewer.kept number (subst (λ n. holds (calls_of needs n) number ≡ true) (sym same) h)))
      (λ differ. inr (subst (λ l. holds l number ≡ true) (sym (set_else needs place other row differ)) h))
      (same_or_not place other)

-- ---- a class that was looked at

module _ (all outs : List (List ℕ)) (marks : List Bool) (wakes rest : List ℕ) (needs waits : List (List ℕ)) (ready : List ℕ) (place : ℕ)
    (row : List ℕ) (lt : place < length needs)
    (fewer : AreNeeded marks (calls_of needs place) row) (old : AreHeld all outs marks wakes (place ∷ rest) needs waits ready) where
  needed_after : (other number : ℕ) → holds (calls_of outs other) number ≡ true →
      (marked marks number ≡ true) ⊎ (holds (calls_of (set needs place row) other) number ≡ true)
  needed_after other number h = ⊎_elim (λ e. inl e) (needs_kept marks needs place row lt fewer other number) (old.needed other number h)

  -- all that it calls outside are listed
  pub look_ready : (ready_now : List ℕ) → row ≡ [] → ((other : ℕ) → holds ready_now other ≡ holds (place ∷ ready) other) →
      AreHeld all outs marks wakes rest (set needs place row) waits ready_now
  look_ready ready_now none added = record {
    own = λ other number h. old.own other number (needs_own marks needs place row lt fewer other number h);
    needed = needed_after;
    listed = λ other number h out.
        ⊎_elim
        (λ same. ⊎_elim (λ e. e)
        (λ e. none_held number
        (subst (λ l. holds l number ≡ true) (set_there needs place row lt ∙ none)
        (subst (λ n. holds (calls_of (set needs place row) n) number ≡ true) (sym same) e)))
        (needed_after other number out))
        (λ e. old.listed other number e out)
        (first_or_rest place ready other (sym (added other) ∙ h));
    each = λ other less. held other (old.each other less);
  }
    where
      is_ready : (other : ℕ) → place ≡ other → IsHeld all marks wakes rest (set needs place row) waits ready_now other
      is_ready other same = IsReady (added other ∙ is_first_held place ready other same)

      held : (other : ℕ) → IsHeld all marks wakes (place ∷ rest) needs waits ready other →
          IsHeld all marks wakes rest (set needs place row) waits ready_now other
      held other (IsListed e) = IsListed e
      held other (IsReady e) = IsReady (added other ∙ right_or (place == other) (holds ready other) e)
      held other (IsLeft e) = ⊎_elim (is_ready other) (λ h. IsLeft h) (first_or_rest place rest other e)
      held other (IsWaiting number needed there cause) =
          ⊎_elim (is_ready other)
          (λ differ. IsWaiting number (subst (λ l. holds l number ≡ true) (sym (set_else needs place other row differ)) needed) there cause)
          (same_or_not place other)

  -- one of them is not
  pub look_waits : (number : ℕ) → number < length waits → holds row number ≡ true → marked marks number ≡ false →
      AreHeld all outs marks wakes rest (set needs place row) (set waits number (calls_of waits number ++ place ∷ [])) ready
  look_waits number within there unmarked = record {
    own = λ other n h. old.own other n (needs_own marks needs place row lt fewer other n h);
    needed = needed_after;
    listed = old.listed;
    each = λ other less. held other (old.each other less);
  }
    where
      later : List (List ℕ)
      later = set waits number (calls_of waits number ++ place ∷ [])

      there_now : calls_of later number ≡ calls_of waits number ++ place ∷ []
      there_now = set_there waits number (calls_of waits number ++ place ∷ []) within

      waits_now : (other : ℕ) → place ≡ other → IsHeld all marks wakes rest (set needs place row) later ready other
      waits_now other same =
          subst (λ n. IsHeld all marks wakes rest (set needs place row) later ready n) same
          (IsWaiting number (subst (λ l. holds l number ≡ true) (sym (set_there needs place row lt)) there)
          (subst (λ l. holds l place ≡ true) (sym there_now) (holds_end (calls_of waits number) place)) (inl unmarked))

      still : (n other : ℕ) → holds (calls_of waits n) other ≡ true → holds (calls_of later n) other ≡ true
      still n other h =
          ⊎_elim
          (λ same. subst (λ k. holds (calls_of later k) other ≡ true) same
          (subst (λ l. holds l other ≡ true) (sym there_now)
          (holds_left (calls_of waits number) place other (subst (λ k. holds (calls_of waits k) other ≡ true) (sym same) h))))
          (λ differ. subst (λ l. holds l other ≡ true) (sym (set_else waits number n (calls_of waits number ++ place ∷ []) differ)) h)
          (same_or_not number n)

      held : (other : ℕ) → IsHeld all marks wakes (place ∷ rest) needs waits ready other →
          IsHeld all marks wakes rest (set needs place row) later ready other
      held other (IsListed e) = IsListed e
      held other (IsReady e) = IsReady e
      held other (IsLeft e) = ⊎_elim (waits_now other) (λ h. IsLeft h) (first_or_rest place rest other e)
      held other (IsWaiting n needed at cause) =
          ⊎_elim (waits_now other)
          (λ differ. IsWaiting n (subst (λ l. holds l n ≡ true) (sym (set_else needs place other row differ)) needed)
          (still n other at) cause) (same_or_not place other)

-- ---- those that wait for a number are still to be looked at

pub woken : (all outs : List (List ℕ)) (marks : List Bool) (wakes : List ℕ) (number : ℕ) (needs waits : List (List ℕ)) (ready : List ℕ) →
    number < length waits →
    AreHeld all outs marks (number ∷ wakes) [] needs waits ready →
    AreHeld all outs marks wakes (calls_of waits number) needs (set waits number []) ready
woken all outs marks wakes number needs waits ready lt old =
    record { own = old.own; needed = old.needed; listed = old.listed; each = λ place less. held place (old.each place less) }
  where
    open_still : (n : ℕ) → number ≢ n → (marked marks n ≡ false) ⊎ (holds (number ∷ wakes) n ≡ true) →
        (marked marks n ≡ false) ⊎ (holds wakes n ≡ true)
    open_still n differ (inl e) = inl e
    open_still n differ (inr e) = ⊎_elim (λ same. absurd (differ same)) (λ h. inr h) (first_or_rest number wakes n e)

    held : (place : ℕ) → IsHeld all marks (number ∷ wakes) [] needs waits ready place →
        IsHeld all marks wakes (calls_of waits number) needs (set waits number []) ready place
    held place (IsListed e) = IsListed e
    held place (IsReady e) = IsReady e
    held place (IsLeft e) = none_held place e
    held place (IsWaiting n needed there cause) =
        ⊎_elim
        (λ same. IsLeft (subst (λ k. holds (calls_of waits k) place ≡ true) (sym same) there))
        (λ differ. IsWaiting n needed (subst (λ l. holds l place ≡ true) (sym (set_else waits number n [] differ)) there)
        (open_still n differ cause))
        (same_or_not number n)

-- ---- at first

pub first_held : (all outs : List (List ℕ)) (marks : List Bool) (rest : List ℕ) (count : ℕ) →
    ((place : ℕ) → place < length all → holds rest place ≡ true) → AreHeld all outs marks [] rest outs (replicate count []) []
first_held all outs marks rest count every = record {
  own = λ place number h. h;
  needed = λ place number h. inr h;
  listed = λ place number h out. none_held place h;
  each = λ place less. IsLeft (every place less);
}

-- ---- who may be listed

module _ (kinds : List ℕ) (calls : List (List ℕ)) (marks : List Bool) where
  by_callee : (number callee : ℕ) (callees : List ℕ) (same : Bool) → same_kind kinds callee number ≡ same →
      list_all (λ n. same_kind kinds n number || marked marks n) callees
      ≡ list_all (marked marks) (filter (λ n. not (same_kind kinds n number)) callees) →
      list_all (λ n. same_kind kinds n number || marked marks n) (callee ∷ callees)
      ≡ list_all (marked marks) (filter (λ n. not (same_kind kinds n number)) (callee ∷ callees))
  by_callee number callee callees true e others = rw e others
  by_callee number callee callees false e others = rw e (ap (λ b. marked marks callee && b) others)

  ready_calls : (number : ℕ) (callees : List ℕ) →
      list_all (λ n. same_kind kinds n number || marked marks n) callees
      ≡ list_all (marked marks) (filter (λ n. not (same_kind kinds n number)) callees)
  ready_calls number [] = refl
  ready_calls number (callee ∷ callees) = by_callee number callee callees (same_kind kinds callee number) refl (ready_calls number callees)

  ready_class : (class : List ℕ) →
      list_all (λ number. list_all (λ n. same_kind kinds n number || marked marks n) (calls_of calls number)) class
      ≡ list_all (marked marks) (outside_of kinds calls class)
  ready_class [] = refl
  ready_class (number ∷ class) =
      ap (λ b. b && list_all (λ k. list_all (λ n. same_kind kinds n k || marked marks n) (calls_of calls k)) class)
      (ready_calls number (calls_of calls number)) ∙
      ap (λ b. list_all (marked marks) (calls_outside kinds calls number) && b) (ready_class class) ∙
      sym (list_all-append (marked marks) (calls_outside kinds calls number) (outside_of kinds calls class))

  module _ (all : List (List ℕ)) (needs waits : List (List ℕ)) (ready : List ℕ)
      (old : AreHeld all (map (outside_of kinds calls) all) marks [] [] needs waits ready) where
    outs_at : (place : ℕ) → place < length all →
        calls_of (map (outside_of kinds calls) all) place ≡ outside_of kinds calls (calls_of all place)
    outs_at place lt = get_or-map (outside_of kinds calls) all place [] [] lt

    -- one that may be listed and is not ready can't be
    next_is_ready : (place : ℕ) → place < length all → is_next_in kinds calls marks (calls_of all place) ≡ true →
        (is_listed marks all place ≡ false) × (holds ready place ≡ true)
    next_is_ready place lt next = (fresh, by_held (old.each place lt))
      where
        parts : (not (is_listed marks all place) ≡ true)
            × (list_all (λ number. list_all (λ n. same_kind kinds n number || marked marks n) (calls_of calls number)) (calls_of all place)
            ≡ true)
        parts = both_true (not (is_listed marks all place)) _ next

        fresh : is_listed marks all place ≡ false
        fresh = not_true (is_listed marks all place) parts.0

        all_marked : (number : ℕ) → holds (calls_of (map (outside_of kinds calls) all) place) number ≡ true → marked marks number ≡ true
        all_marked number h =
            let at =
            held_at (outside_of kinds calls (calls_of all place)) number (subst (λ l. holds l number ≡ true) (outs_at place lt) h) in
            each_passes (marked marks) (outside_of kinds calls (calls_of all place)) at.0 number
            (sym (ready_class (calls_of all place)) ∙ parts.1) at.1

        by_held : IsHeld all marks [] [] needs waits ready place → holds ready place ≡ true
        by_held (IsListed e) = absurd (true≢false (sym e ∙ fresh))
        by_held (IsReady e) = e
        by_held (IsLeft e) = none_held place e
        by_held (IsWaiting number needed there (inl unmarked)) =
            absurd (true≢false (sym (all_marked number (old.own place number needed)) ∙ unmarked))
        by_held (IsWaiting number needed there (inr h)) = none_held number h

    is_not_next : (place : ℕ) → place < length all → ((is_listed marks all place ≡ false) × (holds ready place ≡ true) → ⊥) →
        is_next_in kinds calls marks (calls_of all place) ≡ false
    is_not_next place lt never = by_test (is_next_in kinds calls marks (calls_of all place)) refl
      where
        by_test : (b : Bool) → is_next_in kinds calls marks (calls_of all place) ≡ b →
            is_next_in kinds calls marks (calls_of all place) ≡ false
        by_test true e = absurd (never (next_is_ready place lt e))
        by_test false e = e

    pub taken_is_found : (left : List ℕ) (first : ℕ) → first < length all → IsTaken marks all ready left first →
        find (is_next_in kinds calls marks) all ≡ slice_get all first
    taken_is_found left first lt taken = find_at (is_next_in kinds calls marks) all first [] lt before here
      where
        before : (k : ℕ) → k < first → is_next_in kinds calls marks (calls_of all k) ≡ false
        before k less =
            is_not_next k (omega (arith, less, lt))
            (λ both. ⊎_elim (λ e. true≢false (sym e ∙ both.0)) (λ le. let late : first ≤ k = le in omega (arith, late, less))
            (taken.least k both.1))

        all_marked : list_all (marked marks) (outside_of kinds calls (calls_of all first)) ≡ true
        all_marked =
            all_pass (marked marks) (outside_of kinds calls (calls_of all first))
            (λ i number at. old.listed first number taken.there
            (subst (λ l. holds l number ≡ true) (sym (outs_at first lt))
            (holds_at (outside_of kinds calls (calls_of all first)) i number at)))

        here : is_next_in kinds calls marks (calls_of all first) ≡ true
        here = both_are (not (is_listed marks all first)) _ (ap not taken.fresh) (ready_class (calls_of all first) ∙ all_marked)

    pub none_is_found : (left : List ℕ) → IsFirst marks all ready left None → find (is_next_in kinds calls marks) all ≡ None
    none_is_found left none =
        find_none (is_next_in kinds calls marks) all [] (λ k lt. is_not_next k lt (λ both. true≢false (sym (none k both.1) ∙ both.0)))

-- ---- the class that was taken is listed

pub taken_is_listed : (all outs : List (List ℕ)) (marks later : List Bool) (class : List ℕ) (needs waits : List (List ℕ))
    (ready left : List ℕ) (first member : ℕ) → IsTaken marks all ready left first → AreAllMarked class marks later →
    class ≡ calls_of all first → holds class member ≡ true → AreHeld all outs marks [] [] needs waits ready →
    AreHeld all outs later class [] needs waits left
taken_is_listed all outs marks later class needs waits ready left first member taken more is_class has old = record {
  own = old.own;
  needed = λ place number h. ⊎_elim (λ e. inl (still number e)) (λ e. inr e) (old.needed place number h);
  listed = λ place number h out. still number (old.listed place number (taken.own place h) out);
  each = λ place less. held place (old.each place less);
}
  where
    still : (number : ℕ) → marked marks number ≡ true → marked later number ≡ true
    still number e = more number ∙ left_or (marked marks number) (holds class number) e

    listed_still : (place : ℕ) → is_listed marks all place ≡ true → is_listed later all place ≡ true
    listed_still place e = any_more (marked marks) (marked later) (calls_of all place) still e

    first_listed : is_listed later all first ≡ true
    first_listed =
        let at = held_at class member has in
        subst (λ l. list_any (marked later) l ≡ true) is_class
        (any_passes (marked later) class at.0 member at.1 (more member ∙ right_or (marked marks member) (holds class member) has))

    open_now : (number : ℕ) → marked marks number ≡ false → (marked later number ≡ false) ⊎ (holds class number ≡ true)
    open_now number e = by_test (holds class number) refl
      where
        by_test : (b : Bool) → holds class number ≡ b → (marked later number ≡ false) ⊎ (holds class number ≡ true)
        by_test true h = inr h
        by_test false h = inl (more number ∙ ap (λ b. b || holds class number) e ∙ h)

    held : (place : ℕ) → IsHeld all marks [] [] needs waits ready place → IsHeld all later class [] needs waits left place
    held place (IsListed e) = IsListed (listed_still place e)
    held place (IsReady e) =
        ⊎_elim (λ h. IsListed (listed_still place h))
        (λ h. ⊎_elim (λ same. IsListed (subst (λ n. is_listed later all n ≡ true) (sym same) first_listed)) (λ there. IsReady there) h)
        (taken.kept place e)
    held place (IsLeft e) = none_held place e
    held place (IsWaiting number needed there (inl unmarked)) = IsWaiting number needed there (open_now number unmarked)
    held place (IsWaiting number needed there (inr h)) = none_held number h
