-- The first that passes, by places; and tests that are exact.
use Rattle.std.proofs.Common.{◌≡◌, ◌↔◌, ℕ, zero, suc, ◌+◌, ◌<◌, ◌≤◌, nat_lt, Bool, true, false, cond, not, ◌||◌, IsTrue, List, [], ◌∷◌}
use Rattle.std.proofs.Common.{length, map, get_or, slice_get, Some, None, refl, sym, ap, ◌∙◌, subst, find, arith, ⊎_elim}
use Rattle.std.proofs.lemmas.Bool.{cases_lt}
use Rattle.std.proofs.lemmas.List.{get_or_default}
use Rattle.std.proofs.lemmas.Bool.Decides.{Decides-ltb}
use Rattle.std.proofs.lemmas.Option.{slice_get_past}
use Rattle.std.specs.List.{list_any, position_or_len}
use Rattle.std.specs.Prelude.{position}
use Rattle.shape_data.specs.Exact.{IsExactTest}
use Rattle.call_components.specs.Tables.{at_place}
use Rattle.component_keys.proofs.Whole.{same_answers}

-- whoever tells whether two values are the same answers as each exact test
pub same_test : {A : Type 0} (test : (t : A → A → Bool) × IsExactTest t) (x y : A) (b : Bool) → (IsTrue b ↔ (x ≡ y)) → b ≡ test.0 x y
same_test test x y b h = same_answers b (test.0 x y) (λ e. (test.1 x y).1 (h.0 e)) (λ e. h.1 ((test.1 x y).0 e))

-- each before fails and this one passes
pub mapped_first : {X Y : Type 0} (f : X → Y) (p : Y → Bool) (xs : List X) (i : ℕ) (x : X) → i < length xs → x ≡ get_or xs i x →
    ((k : ℕ) (d : X) → k < i → p (f (get_or xs k d)) ≡ false) → p (f x) ≡ true →
    slice_get (map f xs) i ≡ find p (map f xs)
mapped_first f p [] i x lt is before here = absurd (omega (arith, lt))
mapped_first f p (y ∷ xs) zero x lt is before here = rw (subst (λ z. p (f z) ≡ true) is here) refl
mapped_first f p (y ∷ xs) (suc i) x lt is before here =
    rw (before 0 y (omega arith)) (mapped_first f p xs i x (omega (arith, lt)) is (λ k d less. before (suc k) d (omega (arith, less))) here)

pub mapped_none : {X Y : Type 0} (f : X → Y) (p : Y → Bool) (xs : List X) (i : ℕ) → length xs ≤ i →
    ((k : ℕ) (d : X) → k < i → p (f (get_or xs k d)) ≡ false) → None ≡ find p (map f xs)
mapped_none f p [] i le before = refl
mapped_none f p (y ∷ xs) zero le before = absurd (omega (arith, le))
mapped_none f p (y ∷ xs) (suc i) le before =
    rw (before 0 y (omega arith)) (mapped_none f p xs i (omega (arith, le)) (λ k d less. before (suc k) d (omega (arith, less))))

-- what holds of each element before a place and of the one there holds of each before the next place
pub below_next : {X : Type 0} (P : X → Type 0) (xs : List X) (i : ℕ) (x : X) → i < length xs → x ≡ get_or xs i x →
    ((k : ℕ) (d : X) → k < i → P (get_or xs k d)) → P x →
    (k : ℕ) (d : X) → k < i + 1 → P (get_or xs k d)
below_next P xs i x lt is before here k d less =
    ⊎_elim (λ earlier. before k d earlier)
    (λ later. let e : k
    ≡ i = omega (arith, less, later) in subst P (is ∙ get_or_default xs i x d lt ∙ ap (λ n. get_or xs n d) (sym e)) here) (cases_lt k i)

-- ---- places as numbers

place_is : {X : Type 0} (p : X → Bool) (xs : List X) (i : ℕ) (x : X) → i < length xs → x ≡ get_or xs i x →
    ((k : ℕ) (d : X) → k < i → p (get_or xs k d) ≡ false) → p x ≡ true → position_or_len p xs ≡ i
place_is p [] i x lt is before here = absurd (omega (arith, lt))
place_is p (y ∷ xs) zero x lt is before here = rw (subst (λ z. p z ≡ true) is here) refl
place_is p (y ∷ xs) (suc i) x lt is before here =
    let rest : position_or_len p xs ≡ i =
    place_is p xs i x (omega (arith, lt)) is (λ k d less. before (suc k) d (omega (arith, less))) here in
    rw (before 0 y (omega arith)) (omega (arith, rest))

pub first_position : {X : Type 0} (p : X → Bool) (xs : List X) (i : ℕ) (x : X) → i < length xs → x ≡ get_or xs i x →
    ((k : ℕ) (d : X) → k < i → p (get_or xs k d) ≡ false) → p x ≡ true → Some i ≡ position p xs
first_position p xs i x lt is before here =
    let at = place_is p xs i x lt is before here in
    let within : nat_lt (position_or_len p xs) (length xs) ≡ true =
    (Decides-ltb (position_or_len p xs) (length xs)).1 (omega (arith, lt, at)) in
    rw within (ap (λ n. Some n) (sym at))

past_all : {X : Type 0} (p : X → Bool) (xs : List X) → ((k : ℕ) (d : X) → k < length xs → p (get_or xs k d) ≡ false) →
    position_or_len p xs ≡ length xs
past_all p [] before = refl
past_all p (y ∷ xs) before =
    let rest : position_or_len p xs ≡ length xs = past_all p xs (λ k d less. before (suc k) d (omega (arith, less))) in
    rw (before 0 y (omega arith)) (omega (arith, rest))

pub no_position : {X : Type 0} (p : X → Bool) (xs : List X) (i : ℕ) → length xs ≤ i →
    ((k : ℕ) (d : X) → k < i → p (get_or xs k d) ≡ false) → None ≡ position p xs
no_position p xs i le before =
    let at = past_all p xs (λ k d less. before k d (omega (arith, less, le))) in
    rw (at, not_below (length xs)) refl
  where
    not_below : (n : ℕ) → nat_lt n n ≡ false
    not_below n = grind arith

found_at : {X : Type 0} (p : X → Bool) (xs : List X) → slice_get xs (position_or_len p xs) ≡ find p xs
found_at p [] = refl
found_at {X = X} p (y ∷ xs) = by_test (p y) (found_at p xs)
  where
    by_test : (b : Bool) → slice_get xs (position_or_len p xs) ≡ find p xs →
        slice_get (y ∷ xs) (cond (not b) (1 + position_or_len p xs) 0) ≡ cond b (Some y) (find p xs)
    by_test true again = refl
    by_test false again =
        subst (λ n. slice_get (y ∷ xs) n ≡ find p xs)
        (let e : suc (position_or_len p xs) ≡ 1 + position_or_len p xs = omega arith in e) again

-- the first that passes stands at the first place
pub find_by_place : {X : Type 0} (p : X → Bool) (xs : List X) → find p xs ≡ at_place xs (position p xs)
find_by_place p xs = sym (found_at p xs) ∙ by_test (nat_lt (position_or_len p xs) (length xs)) refl
  where
    by_test : (b : Bool) → nat_lt (position_or_len p xs) (length xs) ≡ b →
        slice_get xs (position_or_len p xs) ≡ at_place xs (cond b (Some (position_or_len p xs)) None)
    by_test true e = refl
    by_test false e = slice_get_past xs (position_or_len p xs) (grind (arith, e))

-- ---- any of a list of values

pub any_map : {X Y : Type 0} (p : Y → Bool) (f : X → Y) (xs : List X) → list_any p (map f xs) ≡ list_any (λ x. p (f x)) xs
any_map p f [] = refl
any_map p f (x ∷ xs) = ap (λ b. p (f x) || b) (any_map p f xs)
