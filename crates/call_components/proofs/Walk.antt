-- The loop that marks all that is reached.
use Rattle.std.proofs.Common.{◌≡◌, ℕ, zero, suc, ◌<◌, Bool, true, false, ◌&&◌, ◌||◌, not, List, [], ◌∷◌, ◌++◌, length, get_or, replicate}
use Rattle.std.proofs.Common.{None, Option, refl, sym, ap, ◌∙◌, subst, arith, inl, inr, ⊎_elim, ◌⊎◌, All, true≢false, IsSome}
use Rattle.std.specs.Global.{Vec}
use Rattle.std.proofs.lemmas.Option.{slice_get-get_or, get_or_from_slice_get, slice_get_within}
use Rattle.component_keys.proofs.Ordered.{held_at}
use Rattle.std.proofs.lemmas.List.{length-replicate, length-map, get_or-map}
use Rattle.component_keys.specs.Components.{holds, calls_of, reached_from}
use Rattle.call_components.specs.Reaching.{rows, marked, AreMarked, IsReaching, AreDefined}
use Rattle.component_keys.proofs.Basics.{both_true, one_true}
use Rattle.component_keys.proofs.Reach.{holds_at, holds_left, holds_end, holds_cases, reached_from_is_closed, reached_from_is_least}
use Rattle.component_keys.proofs.Whole.{left_or, right_or, same_answers, reached_keeps}

one_is : (a b : Bool) → a ≡ b → b ≡ true → a ≡ true
one_is a b e f = e ∙ f

nothing_held : (number : ℕ) → holds [] number ≡ true → ⊥
nothing_held number h = true≢false (sym h)

-- a number that a list holds has what all of them have
pub all_held : (P : ℕ → Type 0) (xs : List ℕ) (number : ℕ) → All P xs → holds xs number ≡ true → P number
all_held P xs number all h =
    let place = held_at xs number h in
    subst P (get_or_from_slice_get xs place.0 number number place.1) (all place.0 number (slice_get_within xs place.0 number place.1))

-- at first
pub unmarked_at : (n number : ℕ) → marked (replicate n false) number ≡ false
unmarked_at zero number = refl
unmarked_at (suc n) zero = refl
unmarked_at (suc n) (suc number) = unmarked_at n number

pub reaching_first : (calls : List (List ℕ)) (starts : List ℕ) (n : ℕ) (ms : List Bool) (ts : List ℕ) → n ≡ length calls →
    All (λ number. number < n) starts →
    AreMarked starts (replicate n false) [] ms ts → IsReaching calls starts ms ts
reaching_first calls starts n ms ts same within first = record {
  lengths = first.lengths ∙ length-replicate n false ∙ same;
  below = λ number h. subst (λ k. number < k) same (all_held (λ k. k < n) starts number within (to_do number h));
  within = λ number h. reached_keeps (length calls) calls starts number (started number h);
  start = λ number h. first.marks_are number ∙ right_or (marked (replicate n false) number) (holds starts number) h;
  todo_marked = λ number h. first.marks_are number ∙ right_or (marked (replicate n false) number) (holds starts number) (to_do number h);
  closed = λ one callee h c. inr (first.todo_is one ∙ rw (unmarked_at n one, started one h) refl);
}
  where
    started : (number : ℕ) → marked ms number ≡ true → holds starts number ≡ true
    started number h =
        ⊎_elim (λ e. absurd (true≢false (sym e ∙ unmarked_at n number))) (λ e. e)
        (one_true (marked (replicate n false) number) (holds starts number) (sym (first.marks_are number) ∙ h))

    to_do : (number : ℕ) → holds ts number ≡ true → holds starts number ≡ true
    to_do number h = (both_true (holds starts number) _ (sym (first.todo_is number) ∙ h)).0

-- one more row
pub reaching_more : (calls : List (List ℕ)) (starts : List ℕ) (number : ℕ) (marks ms : List Bool) (todo ts : List ℕ) → AreDefined calls →
    IsReaching calls starts marks (todo ++ number ∷ []) →
    AreMarked (calls_of calls number) marks todo ms ts → IsReaching calls starts ms ts
reaching_more calls starts number marks ms todo ts defined old more = record {
  lengths = more.lengths ∙ old.lengths;
  below =
      λ k h. ⊎_elim (λ e. old.below k (holds_left todo number k e))
      (λ e. defined number k (both_true (holds (calls_of calls number) k) _ e).0)
      (one_true (holds todo k) _ (sym (more.todo_is k) ∙ h));
  within =
      λ k h. ⊎_elim (old.within k)
      (λ e. reached_from_is_closed calls starts number k (old.within number (old.todo_marked number (holds_end todo number))) e
      (defined number k e))
      (one_true (marked marks k) _ (sym (more.marks_are k) ∙ h));
  start = λ k h. more.marks_are k ∙ left_or (marked marks k) _ (old.start k h);
  todo_marked = λ k h. more.marks_are k ∙ ⊎_elim (λ e. left_or (marked marks k) _ (old.todo_marked k (holds_left todo number k e)))
      (λ e. right_or (marked marks k) (holds (calls_of calls number) k) (both_true (holds (calls_of calls number) k) _ e).0)
      (one_true (holds todo k) _ (sym (more.todo_is k) ∙ h));
  closed = λ one callee h c. by_marked one callee c (marked marks one) refl (sym (more.marks_are one) ∙ h);
}
  where
    by_marked : (one callee : ℕ) → holds (calls_of calls one) callee ≡ true → (b : Bool) → marked marks one ≡ b →
        (marked marks one || holds (calls_of calls number) one) ≡ true →
        (marked ms callee ≡ true) ⊎ (holds ts one ≡ true)
    by_marked one callee c true e h =
        ⊎_elim (λ f. inl (more.marks_are callee ∙ left_or (marked marks callee) _ f))
        (λ f. ⊎_elim (λ g. inr (more.todo_is one ∙ left_or (holds todo one) _ g))
        (λ same. inl
        (more.marks_are callee
        ∙ right_or (marked marks callee) (holds (calls_of calls number) callee)
        (subst (λ k. holds (calls_of calls k) callee ≡ true) same c)))
        (holds_cases todo number one f))
        (old.closed one callee e c)
    by_marked one callee c false e h =
        let called : holds (calls_of calls number) one ≡ true =
        ⊎_elim (λ f. absurd (true≢false (sym f ∙ e))) (λ f. f) (one_true (marked marks one) (holds (calls_of calls number) one) h) in
        inr (more.todo_is one
        ∙ right_or (holds todo one) (holds (calls_of calls number) one && not (marked marks one)) (rw (called, e) refl))

-- at the end
pub reaching_all : (calls : List (List ℕ)) (starts : List ℕ) (marks : List Bool) (todo : List ℕ) → AreDefined calls →
    IsReaching calls starts marks todo → todo ≡ [] →
    (number : ℕ) → marked marks number ≡ holds (reached_from calls starts) number
reaching_all calls starts marks todo defined all none number =
    same_answers (marked marks number) (holds (reached_from calls starts) number) (all.within number)
    (λ h. reached_from_is_least calls starts (λ k. marked marks k ≡ true)
    (λ one callee m c. ⊎_elim (λ e. e) (λ e. absurd (nothing_held one (subst (λ t. holds t one ≡ true) none e)))
    (all.closed one callee m c)) all.start number h)

-- ---- in the words of the loop

pub first_marks : (calls : List (Vec ℕ)) (starts : List ℕ) (fresh ms : List Bool) (todo ts : List ℕ) →
    All (λ number. number < length calls) starts → fresh ≡ replicate (length calls) false → todo ≡ [] →
    AreMarked starts fresh todo ms ts → IsReaching (rows calls) starts ms ts
first_marks calls starts fresh ms todo ts within is_fresh is_todo first =
    reaching_first (rows calls) starts (length calls) ms ts (sym (length-map calls (λ row. row.items))) within
    (subst (λ m. AreMarked starts m [] ms ts) is_fresh (subst (λ t. AreMarked starts fresh t ms ts) is_todo first))

-- what was popped was to do
pub popped_below : (calls : List (Vec ℕ)) (starts : List ℕ) (marks : List Bool) (before todo : List ℕ) (number : ℕ) →
    IsReaching (rows calls) starts marks before → before ≡ todo ++ number ∷ [] → number < length calls
popped_below calls starts marks before todo number all e =
    let lt : number < length (rows calls) = all.below number (subst (λ l. holds l number ≡ true) (sym e) (holds_end todo number)) in
    subst (λ n. number < n) (length-map calls (λ row. row.items)) lt

pub row_of : (calls : List (Vec ℕ)) (number : ℕ) (row : Vec ℕ) → number < length calls → row ≡ get_or calls number row →
    calls_of (rows calls) number ≡ row.items
row_of calls number row lt e = get_or-map (λ r. r.items) calls number row [] lt ∙ ap (λ r. r.items) (sym e)

pub row_below : (calls : List (Vec ℕ)) (starts : List ℕ) (marks : List Bool) (todo : List ℕ) (number : ℕ) (row : Vec ℕ) →
    AreDefined (rows calls) → IsReaching (rows calls) starts marks todo → number < length calls →
    row ≡ get_or calls number row → All (λ k. k < length marks) row.items
row_below calls starts marks todo number row defined all lt e k d within =
    let held : holds (calls_of (rows calls) number) (get_or row.items k d) ≡ true =
    subst (λ l. holds l (get_or row.items k d) ≡ true) (sym (row_of calls number row lt e))
    (holds_at row.items k (get_or row.items k d) (slice_get-get_or row.items k d within)) in
    let less : get_or row.items k d < length (rows calls) = defined number (get_or row.items k d) held in
    subst (λ n. get_or row.items k d < n) (sym all.lengths) less

pub more_marks : (calls : List (Vec ℕ)) (starts : List ℕ) (number : ℕ) (marks ms : List Bool) (before todo ts : List ℕ) (row : Vec ℕ) →
    AreDefined (rows calls) → IsReaching (rows calls) starts marks before →
    before ≡ todo ++ number ∷ [] → row ≡ get_or calls number row → AreMarked row.items marks todo ms ts →
    IsReaching (rows calls) starts ms ts
more_marks calls starts number marks ms before todo ts row defined all popped e more =
    reaching_more (rows calls) starts number marks ms todo ts defined (subst (IsReaching (rows calls) starts marks) popped all)
    (subst (λ r. AreMarked r marks todo ms ts)
    (sym (row_of calls number row (popped_below calls starts marks before todo number all popped) e)) more)

-- nothing could be popped
pub none_left : (r : Option ℕ) (xs : List ℕ) → (0 < length xs → IsSome r) → r ≡ None → xs ≡ []
none_left r [] h e = refl
none_left r (x ∷ xs) h e =
    absurd (let some : IsSome {T = ℕ} None = subst (λ (o : Option ℕ). IsSome o) e (h (omega arith)) in true≢false (sym some))
