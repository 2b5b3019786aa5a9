-- Tests, options and lists.
use Rattle.std.proofs.Common.{◌≡◌, ℕ, zero, suc, Bool, true, false, cond, ◌&&◌, ◌||◌, not, List, [], ◌∷◌, ◌++◌, map, length, slice_get}
use Rattle.std.proofs.Common.{Some, None, Option, refl, sym, ap, subst, inl, inr, ⊎_elim, ◌⊎◌, filter, find, option_map, ◌≤◌, le_refl}
use Rattle.std.proofs.Common.{arith}
use Rattle.std.specs.List.{list_any, AllZip}

-- ---- tests

pub both_true : (a b : Bool) → (a && b) ≡ true → (a ≡ true) × (b ≡ true)
both_true true b e = (refl, e)
both_true false b e = cc

pub not_true : (b : Bool) → not b ≡ true → b ≡ false
not_true true e = cc
not_true false e = refl

pub one_true : (a b : Bool) → (a || b) ≡ true → (a ≡ true) ⊎ (b ≡ true)
one_true true b e = inl refl
one_true false b e = inr e

pub left_false : (a b : Bool) → (a || b) ≡ false → a ≡ false
left_false true b e = cc
left_false false b e = refl

pub right_false : (a b : Bool) → (a || b) ≡ false → b ≡ false
right_false true b e = cc
right_false false b e = e

-- ---- options

pub some_same : {X : Type 0} {x y : X} → Some x ≡ Some y → x ≡ y
some_same e = cc

pub not_none : {X : Type 0} {x : X} {A : Type 0} → None ≡ Some x → A
not_none e = cc

pub mapped_some : {X Y : Type 0} (f : X → Y) (o : Option X) (y : Y) → option_map f o ≡ Some y → (x : X) × (o ≡ Some x) × (y ≡ f x)
mapped_some f None y e = not_none e
mapped_some f (Some x) y e = (x, refl, sym (some_same e))

-- ---- places of a list

pub at_left : {X : Type 0} (xs ys : List X) (i : ℕ) (x : X) → slice_get xs i ≡ Some x → slice_get (xs ++ ys) i ≡ Some x
at_left [] ys i x e = not_none e
at_left (first ∷ xs) ys zero x e = e
at_left (first ∷ xs) ys (suc i) x e = at_left xs ys i x e

pub at_end : {X : Type 0} (xs : List X) (x : X) → slice_get (xs ++ x ∷ []) (length xs) ≡ Some x
at_end [] x = refl
at_end (first ∷ xs) x = at_end xs x

pub at_push : {X : Type 0} (xs : List X) (y : X) (i : ℕ) (x : X) → slice_get (xs ++ y ∷ []) i ≡ Some x →
    (slice_get xs i ≡ Some x) ⊎ ((i ≡ length xs) × (x ≡ y))
at_push [] y zero x e = inr (refl, sym (some_same e))
at_push [] y (suc i) x e = not_none e
at_push (first ∷ xs) y zero x e = inl e
at_push (first ∷ xs) y (suc i) x e = ⊎_elim inl (λ end. inr (ap (λ n. suc n) end.0, end.1)) (at_push xs y i x e)

pub at_map : {X Y : Type 0} (f : X → Y) (xs : List X) (i : ℕ) → slice_get (map f xs) i ≡ option_map f (slice_get xs i)
at_map f [] i = refl
at_map f (x ∷ xs) zero = refl
at_map f (x ∷ xs) (suc i) = at_map f xs i

pub none_passes : {X : Type 0} (p : X → Bool) (xs : List X) (i : ℕ) (x : X) → list_any p xs ≡ false → slice_get xs i ≡ Some x → p x ≡ false
none_passes p [] i x none e = not_none e
none_passes p (first ∷ xs) zero x none e = subst (λ y. p y ≡ false) (some_same e) (left_false (p first) (list_any p xs) none)
none_passes p (first ∷ xs) (suc i) x none e = none_passes p xs i x (right_false (p first) (list_any p xs) none) e

-- ---- the first that passes

pub found : {X : Type 0} (p : X → Bool) (xs : List X) (x : X) → find p xs ≡ Some x → (p x ≡ true) × ((i : ℕ) × (slice_get xs i ≡ Some x))
found p [] x e = not_none e
found p (first ∷ xs) x e = by_test (p first) refl e (found p xs x)
  where
    by_test : (b : Bool) → p first ≡ b → cond b (Some first) (find p xs) ≡ Some x →
        (find p xs ≡ Some x → (p x ≡ true) × ((i : ℕ) × (slice_get xs i ≡ Some x))) →
        (p x ≡ true) × ((i : ℕ) × (slice_get (first ∷ xs) i ≡ Some x))
    by_test true passes at again = (subst (λ y. p y ≡ true) (some_same at) passes, (zero, at))
    by_test false fails at again = let old = again at in (old.0, (suc old.1.0, old.1.1))

-- one that passes is at hand, so one is found
pub is_found : {X : Type 0} (p : X → Bool) (xs : List X) (i : ℕ) (x : X) → slice_get xs i ≡ Some x → p x ≡ true →
    (y : X) × (find p xs ≡ Some y)
is_found p [] i x e passes = not_none e
is_found p (first ∷ xs) zero x e passes = (first, rw (subst (λ y. p y ≡ true) (sym (some_same e)) passes) refl)
is_found {X = X} p (first ∷ xs) (suc i) x e passes = by_test (p first) (is_found p xs i x e passes)
  where
    by_test : (b : Bool) → (y : X) × (find p xs ≡ Some y) → (y : X) × (cond b (Some first) (find p xs) ≡ Some y)
    by_test true old = (first, refl)
    by_test false old = old

pub found_kept : {X : Type 0} (p q : X → Bool) (xs : List X) → ((x : X) → p x ≡ true → q x ≡ true) → find p (filter q xs) ≡ find p xs
found_kept p q [] h = refl
found_kept p q (x ∷ xs) h = by_test (q x) (p x) refl refl (found_kept p q xs h)
  where
    by_test : (b c : Bool) → q x ≡ b → p x ≡ c → find p (filter q xs) ≡ find p xs →
        find p (cond b (x ∷ filter q xs) (filter q xs)) ≡ cond c (Some x) (find p xs)
    by_test true true e f again = rw f refl
    by_test true false e f again = rw f again
    by_test false true e f again = absurd (let t : q x ≡ true = h x f in cc)
    by_test false false e f again = again

pub not_found : {X : Type 0} (p : X → Bool) (xs : List X) → find p (filter (λ x. not (p x)) xs) ≡ None
not_found p [] = refl
not_found p (x ∷ xs) = by_test (p x) refl (not_found p xs)
  where
    by_test : (b : Bool) → p x ≡ b → find p (filter (λ x. not (p x)) xs) ≡ None →
        find p (cond (not b) (x ∷ filter (λ x. not (p x)) xs) (filter (λ x. not (p x)) xs)) ≡ None
    by_test true e again = again
    by_test false e again = rw e again

-- ---- lists place by place

pub zipped_at : {X Y : Type 0} (R : X → Y → Type 0) (xs : List X) (ys : List Y) (i : ℕ) (x : X) → AllZip R xs ys → slice_get xs i ≡ Some x →
    (y : Y) × (slice_get ys i ≡ Some y) × R x y
zipped_at R [] [] i x h e = not_none e
zipped_at R [] (y ∷ ys) i x h e = absurd h
zipped_at R (first ∷ xs) [] i x h e = absurd h
zipped_at R (first ∷ xs) (y ∷ ys) zero x h e = (y, refl, subst (λ z. R z y) (some_same e) h.0)
zipped_at R (first ∷ xs) (y ∷ ys) (suc i) x h e = zipped_at R xs ys i x h.1 e

-- ---- filters

pub filter_less : {X : Type 0} (p : X → Bool) (xs : List X) → length (filter p xs) ≤ length xs
filter_less p [] = le_refl 0
filter_less {X = X} p (x ∷ xs) = by_test (p x) (filter_less p xs)
  where
    by_test : (b : Bool) → length (filter p xs) ≤ length xs → length (cond b (x ∷ filter p xs) (filter p xs)) ≤ suc (length xs)
    by_test true again = omega (arith, again)
    by_test false again = omega (arith, again)
