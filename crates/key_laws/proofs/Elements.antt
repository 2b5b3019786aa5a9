-- Elements of lists by their places, and pairs of them.
use Rattle.std.proofs.Common.{◌≡◌, ℕ, zero, suc, ◌+◌, ◌<◌, ◌≤◌, Bool, true, false, cond, not, List, [], ◌∷◌, length, slice_get, get_or}
use Rattle.std.proofs.Common.{Some, None, Option, refl, sym, ap, ◌∙◌, subst, filter_map, find, arith, All, AllPairs, le_refl}
use Rattle.std.specs.Prelude.{position}
use Rattle.std.specs.List.{cons_option, flat_map, position_or_len, AllZip, Contains}
use Rattle.std.proofs.lemmas.Bool.Decides.{Decides-ltb}
use Rattle.std.proofs.lemmas.List.Elements.{All-nil, All-cons, All-head, All-tail, Contains-append_left, Contains-append_right}
use Rattle.std.proofs.lemmas.List.Kept.{AllPairs-cons}
use Rattle.std.proofs.lemmas.Option.{slice_get-get_or, get_or_from_slice_get, slice_get_within}
use Rattle.component_keys.proofs.Basics.{not_none, some_same}

-- ---- all of them

pub all_of : {X : Type 0} (P : X → Type 0) (xs : List X) → ((i : ℕ) (x : X) → slice_get xs i ≡ Some x → P x) → All P xs
all_of P xs h k d lt = h k (get_or xs k d) (slice_get-get_or xs k d lt)

-- P and a place give Q
pub all_where : {X : Type 0} (P Q : X → Type 0) (xs : List X) → ((i : ℕ) (x : X) → slice_get xs i ≡ Some x → P x → Q x) → All P xs →
    All Q xs
all_where P Q xs h all k d lt = h k (get_or xs k d) (slice_get-get_or xs k d lt) (all k d lt)

pub contained_at : {X : Type 0} (xs : List X) (i : ℕ) (x : X) → slice_get xs i ≡ Some x → Contains xs x
contained_at xs i x at = (i, slice_get_within xs i x at, get_or_from_slice_get xs i x x at)

pub place_of_contained : {X : Type 0} (xs : List X) (x : X) → Contains xs x → (i : ℕ) × (slice_get xs i ≡ Some x)
place_of_contained xs x c = (c.0, slice_get-get_or xs c.0 x c.1 ∙ ap (λ y. Some y) c.2)

-- ---- pairs

pub pairs_first : {X : Type 0} (R : X → X → Type 0) (x : X) (xs : List X) → AllPairs R (x ∷ xs) → All (R x) xs
pairs_first R x xs h k d lt = h 0 (suc k) d (omega arith) (omega (arith, lt))

pub pairs_rest : {X : Type 0} (R : X → X → Type 0) (x : X) (xs : List X) → AllPairs R (x ∷ xs) → AllPairs R xs
pairs_rest R x xs h i j d lt within = h (suc i) (suc j) d (omega (arith, lt)) (omega (arith, within))

pub pairs_none : {X : Type 0} (R : X → X → Type 0) → AllPairs R []
pairs_none R i j d lt within = absurd (grind (arith, within))

pub pairs_one : {X : Type 0} (R : X → X → Type 0) (x : X) → AllPairs R (x ∷ [])
pairs_one R x = AllPairs-cons R x [] (All-nil (R x)) (pairs_none R)

pub pairs_at : {X : Type 0} (R : X → X → Type 0) (xs : List X) (i j : ℕ) (x y : X) → AllPairs R xs → i < j → slice_get xs i ≡ Some x →
    slice_get xs j ≡ Some y → R x y
pairs_at R xs i j x y pairs lt at at' =
    subst (λ z. R z y) (get_or_from_slice_get xs i x x at)
    (subst (R (get_or xs i x)) (get_or_from_slice_get xs j y x at') (pairs i j x lt (slice_get_within xs j y at')))

pub pairs_of : {X : Type 0} (R : X → X → Type 0) (xs : List X) →
    ((i j : ℕ) (x y : X) → i < j → slice_get xs i ≡ Some x → slice_get xs j ≡ Some y → R x y) → AllPairs R xs
pairs_of R xs h i j d lt within =
    h i j (get_or xs i d) (get_or xs j d) lt (slice_get-get_or xs i d (omega (arith, lt, within))) (slice_get-get_or xs j d within)

pub pairs_weaker : {X : Type 0} (R S : X → X → Type 0) → ((x y : X) → R x y → S x y) → (xs : List X) → AllPairs R xs → AllPairs S xs
pairs_weaker R S h xs pairs i j d lt within = h (get_or xs i d) (get_or xs j d) (pairs i j d lt within)

-- ---- what a function keeps

pub length-filter_map : {X Y : Type 0} (f : X → Option Y) (xs : List X) → length (filter_map f xs) ≤ length xs
length-filter_map f [] = le_refl 0
length-filter_map {Y = Y} f (x ∷ xs) = by_option (f x) (length-filter_map f xs)
  where
    by_option : (o : Option Y) → length (filter_map f xs) ≤ length xs → length (cons_option o (filter_map f xs)) ≤ suc (length xs)
    by_option None le = omega (arith, le)
    by_option (Some y) le = omega (arith, le)

pub all_mapped : {X Y : Type 0} (f : X → Option Y) (P : X → Type 0) (Q : Y → Type 0) → ((x : X) (y : Y) → P x → f x ≡ Some y → Q y) →
    (xs : List X) → All P xs → All Q (filter_map f xs)
all_mapped f P Q h [] all = All-nil Q
all_mapped {Y = Y} f P Q h (x ∷ xs) all = by_option (f x) refl (all_mapped f P Q h xs (All-tail P x xs all))
  where
    by_option : (o : Option Y) → f x ≡ o → All Q (filter_map f xs) → All Q (cons_option o (filter_map f xs))
    by_option None e rest = rest
    by_option (Some y) e rest = All-cons Q y (filter_map f xs) (h x y (All-head P x xs all) e) rest

pub pairs_mapped : {X Y : Type 0} (f : X → Option Y) (R : X → X → Type 0) (S : Y → Y → Type 0) →
    ((x y : X) (a b : Y) → R x y → f x ≡ Some a → f y ≡ Some b → S a b) → (xs : List X) →
    AllPairs R xs → AllPairs S (filter_map f xs)
pairs_mapped f R S h [] pairs = pairs_none S
pairs_mapped {Y = Y} f R S h (x ∷ xs) pairs = by_option (f x) refl (pairs_mapped f R S h xs (pairs_rest R x xs pairs))
  where
    by_option : (o : Option Y) → f x ≡ o → AllPairs S (filter_map f xs) → AllPairs S (cons_option o (filter_map f xs))
    by_option None e rest = rest
    by_option (Some a) e rest =
        AllPairs-cons S a (filter_map f xs) (all_mapped f (R x) (S a) (λ y b r g. h x y a b r e g) xs (pairs_first R x xs pairs)) rest

pub in_flat_map : {X Y : Type 0} (f : X → List Y) (xs : List X) (i : ℕ) (x : X) (y : Y) → slice_get xs i ≡ Some x → Contains (f x) y →
    Contains (flat_map f xs) y
in_flat_map f [] i x y at c = not_none at
in_flat_map f (first ∷ xs) zero x y at c =
    Contains-append_left (f first) (flat_map f xs) y (subst (λ z. Contains (f z) y) (sym (some_same at)) c)
in_flat_map f (first ∷ xs) (suc i) x y at c = Contains-append_right (f first) (flat_map f xs) y (in_flat_map f xs i x y at c)

-- ---- the first that passes, and its place

pub first_place : {X : Type 0} (p : X → Bool) (xs : List X) (x : X) → find p xs ≡ Some x → slice_get xs (position_or_len p xs) ≡ Some x
first_place p [] x e = not_none e
first_place {X = X} p (y ∷ xs) x e = by_test (p y) e (first_place p xs x)
  where
    by_test : (b : Bool) → cond b (Some y) (find p xs) ≡ Some x → (find p xs ≡ Some x → slice_get xs (position_or_len p xs) ≡ Some x) →
        slice_get (y ∷ xs) (cond (not b) (1 + position_or_len p xs) 0) ≡ Some x
    by_test true g again = g
    by_test false g again =
        subst (λ n. slice_get (y ∷ xs) n ≡ Some x) (let e : suc (position_or_len p xs) ≡ 1 + position_or_len p xs = omega arith in e)
        (again g)

pub position_found : {X : Type 0} (p : X → Bool) (xs : List X) (x : X) → find p xs ≡ Some x → position p xs ≡ Some (position_or_len p xs)
position_found p xs x e =
    rw ((Decides-ltb (position_or_len p xs) (length xs)).1 (slice_get_within xs (position_or_len p xs) x (first_place p xs x e))) refl

-- ---- lists place by place

pub zipped_left : {X Y : Type 0} (R : X → Y → Type 0) (xs : List X) (ys : List Y) (i : ℕ) (y : Y) → AllZip R xs ys →
    slice_get ys i ≡ Some y → (x : X) × (slice_get xs i ≡ Some x) × R x y
zipped_left R [] [] i y h e = not_none e
zipped_left R [] (z ∷ ys) i y h e = absurd h
zipped_left R (x ∷ xs) [] i y h e = not_none e
zipped_left R (x ∷ xs) (z ∷ ys) zero y h e = (x, refl, subst (λ w. R x w) (some_same e) h.0)
zipped_left R (x ∷ xs) (z ∷ ys) (suc i) y h e = zipped_left R xs ys i y h.1 e

pub zipped_weaker : {X Y : Type 0} (R S : X → Y → Type 0) → ((x : X) (y : Y) → R x y → S x y) → (xs : List X) (ys : List Y) →
    AllZip R xs ys → AllZip S xs ys
zipped_weaker R S h [] [] zip = tt
zipped_weaker R S h [] (y ∷ ys) zip = absurd zip
zipped_weaker R S h (x ∷ xs) [] zip = absurd zip
zipped_weaker R S h (x ∷ xs) (y ∷ ys) zip = (h x y zip.0, zipped_weaker R S h xs ys zip.1)

pub zipped_length : {X Y : Type 0} (R : X → Y → Type 0) (xs : List X) (ys : List Y) → AllZip R xs ys → length xs ≡ length ys
zipped_length R [] [] zip = refl
zipped_length R [] (y ∷ ys) zip = absurd zip
zipped_length R (x ∷ xs) [] zip = absurd zip
zipped_length R (x ∷ xs) (y ∷ ys) zip = ap (λ n. suc n) (zipped_length R xs ys zip.1)
