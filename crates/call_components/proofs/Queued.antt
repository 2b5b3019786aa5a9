-- Places by a heap, and rows from which the last number is taken.
use Rattle.std.proofs.Common.{◌≡◌, ℕ, ◌+◌, ◌-◌, ◌<◌, ◌≤◌, ◌==◌, Bool, true, false, List, [], ◌∷◌, ◌++◌, length, map, take, slice_get, Some}
use Rattle.std.proofs.Common.{◌⊎◌, inl, inr, ⊎_elim, sym, ap, ◌∙◌, subst, arith, IsPermutation, nat_cmp}
use Rattle.std.specs.List.{AllByRecursion}
use Rattle.std.specs.Ordering.{is_lt}
use Rattle.std.proofs.lemmas.List.{take_all, take_more}
use Rattle.std.proofs.lemmas.List.Elements.{All-head}
use Rattle.std.proofs.lemmas.List.Sorted.{IsPermutation-map, le_from_greatest, list_any-IsPermutation}
use Rattle.std.proofs.lemmas.Option.{get_or_from_slice_get, slice_get_within}
use Rattle.component_keys.specs.Components.{holds}
use Rattle.component_keys.proofs.Reach.{holds_left, holds_cases}
use Rattle.call_components.specs.Reaching.{marked}
use Rattle.call_components.specs.Waiting.{AreNeeded}
use Rattle.call_components.proofs.Held.{first_or_rest}

-- the same numbers in another order
pub held_alike : {X : Type 0} (f : X → ℕ) (xs ys : List X) → IsPermutation xs ys → (number : ℕ)
    → holds (map f xs) number ≡ holds (map f ys) number
held_alike f xs ys moved number = list_any-IsPermutation (λ other. other == number) (map f xs) (map f ys) (IsPermutation-map f xs ys moved)

not_below : (a b : ℕ) → is_lt (nat_cmp a b) ≡ false → b ≤ a
not_below a b e = All-head (λ y. y ≤ a) b [] (le_from_greatest a (b ∷ []) (e, tt))

pub least_of : {X : Type 0} (f : X → ℕ) (x : X) (xs : List X) → AllByRecursion (λ y. is_lt (nat_cmp (f y) (f x)) ≡ false) xs → (number : ℕ)
    → holds (map f xs) number ≡ true → f x ≤ number
least_of f x [] all number h = absurd (let never : false ≡ true = h in cc)
least_of f x (y ∷ ys) all number h =
    ⊎_elim (λ same. subst (λ n. f x ≤ n) same (not_below (f y) (f x) all.0)) (λ there. least_of f x ys all.1 number there)
    (first_or_rest (f y) (map f ys) number h)

last_is : (row : List ℕ) (number : ℕ) → slice_get row (length row - 1) ≡ Some number → row ≡ take (length row - 1) row ++ number ∷ []
last_is row number at =
    let lt : length row - 1 < length row = slice_get_within row (length row - 1) number at in
    sym (take_all (length row - 1 + 1) row (omega (arith, lt))) ∙ take_more row (length row - 1) 0 lt
    ∙ ap (λ n. take (length row - 1) row ++ n ∷ []) (get_or_from_slice_get row (length row - 1) number 0 at)

-- the last number is listed
pub last_listed : (marks : List Bool) (before row : List ℕ) (number : ℕ) → AreNeeded marks before row
    → slice_get row (length row - 1) ≡ Some number → marked marks number ≡ true → AreNeeded marks before (take (length row - 1) row)
last_listed marks before row number needed at listed = record {
  own =
      λ other h. needed.own other
      (subst (λ l. holds l other ≡ true) (sym (last_is row number at)) (holds_left (take (length row - 1) row) number other h));
  kept = λ other h.
      ⊎_elim (λ e. inl e)
      (λ e. ⊎_elim (λ there. inr there) (λ same. inl (subst (λ n. marked marks n ≡ true) (sym same) listed))
      (holds_cases (take (length row - 1) row) number other (subst (λ l. holds l other ≡ true) (last_is row number at) e)))
      (needed.kept other h);
}

pub all_needed : (marks : List Bool) (row : List ℕ) → AreNeeded marks row row
all_needed marks row = record { own = λ other h. h; kept = λ other h. inr h }
