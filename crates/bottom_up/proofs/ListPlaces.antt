-- Lists by their places.
use Rattle.std.proofs.Common.{◌≡◌, ℕ, zero, suc, ◌+◌, ◌<◌, Bool, true, List, [], ◌∷◌, ◌++◌, length, map, take, get_or, slice_get, Some}
use Rattle.std.proofs.Common.{None, Option, refl, sym, ap, ◌∙◌, subst, find, filter_map, flat_map, option_and_then, arith}
use Rattle.std.specs.List.{cons_option, AllZip}
use Rattle.std.proofs.lemmas.List.{take_more}
use Rattle.std.proofs.lemmas.List.Elements.{filter_map-append}
use Rattle.component_keys.proofs.Basics.{at_left, found, is_found, not_none, some_same}

-- ---- the front and what stands behind

pub within_at : {X : Type 0} (xs : List X) (i : ℕ) → i < length xs → (x : X) × (slice_get xs i ≡ Some x)
within_at [] i lt = absurd (omega (arith, lt))
within_at (x ∷ xs) zero lt = (x, refl)
within_at (x ∷ xs) (suc i) lt = within_at xs i (omega (arith, lt))

pub front_at : {X : Type 0} (xs ys : List X) (k : ℕ) → k < length xs → slice_get (xs ++ ys) k ≡ slice_get xs k
front_at [] ys k lt = absurd (omega (arith, lt))
front_at (x ∷ xs) ys zero lt = refl
front_at (x ∷ xs) ys (suc k) lt = front_at xs ys k (omega (arith, lt))

pub behind_at : {X : Type 0} (xs ys : List X) (k : ℕ) → slice_get (xs ++ ys) (length xs + k) ≡ slice_get ys k
behind_at [] ys k = ap (slice_get ys) (let e : 0 + k ≡ k = omega arith in e)
behind_at (x ∷ xs) ys k = ap (slice_get ((x ∷ xs) ++ ys)) (let e : suc (length xs) + k ≡ suc (length xs + k) = omega arith in e)
    ∙ behind_at xs ys k

-- an element stands in front, or behind
pub from_append : {X : Type 0} (xs ys : List X) (n : ℕ) (y : X) (P : Type 0) → slice_get (xs ++ ys) n ≡ Some y →
    (slice_get xs n ≡ Some y → P) → ((k : ℕ) → slice_get ys k ≡ Some y → P) → P
from_append [] ys n y P at left right = right n at
from_append (x ∷ xs) ys zero y P at left right = left at
from_append (x ∷ xs) ys (suc n) y P at left right = from_append xs ys n y P at left right

-- ---- lists of lists

pub in_flat : {X Y : Type 0} (f : X → List Y) (xs : List X) (i : ℕ) (x : X) (k : ℕ) (y : Y) → slice_get xs i ≡ Some x →
    slice_get (f x) k ≡ Some y → (n : ℕ) × (slice_get (flat_map f xs) n ≡ Some y)
in_flat f [] i x k y at here = not_none at
in_flat f (first ∷ xs) zero x k y at here =
    (k, at_left (f first) (flat_map f xs) k y (subst (λ z. slice_get (f z) k ≡ Some y) (sym (some_same at)) here))
in_flat f (first ∷ xs) (suc i) x k y at here =
    let later = in_flat f xs i x k y at here in
    (length (f first) + later.0, behind_at (f first) (flat_map f xs) later.0 ∙ later.1)

-- an element of a list of lists: its list, and its place there
pub record IsInFlat {X Y : Type 0} (f : X → List Y) (xs : List X) (y : Y) : Type 0 where
  pub i : ℕ
  pub x : X
  pub at : slice_get xs i ≡ Some x
  pub k : ℕ
  pub here : slice_get (f x) k ≡ Some y

pub from_flat : {X Y : Type 0} (f : X → List Y) (xs : List X) (n : ℕ) (y : Y) → slice_get (flat_map f xs) n ≡ Some y → IsInFlat f xs y
from_flat f [] n y at = not_none at
from_flat f (first ∷ xs) n y at =
    from_append (f first) (flat_map f xs) n y (IsInFlat f (first ∷ xs) y) at
    (λ left. record { i = 0; x = first; at = refl; k = n; here = left })
    (λ k right. let later = from_flat f xs k y right in record {
      i = suc later.i;
      x = later.x;
      at = later.at;
      k = later.k;
      here = later.here;
    })

-- ---- the first that passes

-- where all that pass are one, it is found
pub only_found : {X : Type 0} (p : X → Bool) (xs : List X) (i : ℕ) (x : X) → slice_get xs i ≡ Some x → p x ≡ true →
    ((j : ℕ) (y : X) → slice_get xs j ≡ Some y → p y ≡ true → y ≡ x) → find p xs ≡ Some x
only_found p xs i x at passes only =
    let one = is_found p xs i x at passes in
    let there = found p xs one.0 one.1 in
    one.1 ∙ ap (λ y. Some y) (only there.1.0 one.0 there.1.1 there.0)

-- ---- what a function keeps

-- where it gives something of each element, the places stay
pub mapped_at : {X Y : Type 0} (f : X → Option Y) (xs : List X) → ((i : ℕ) (x : X) → slice_get xs i ≡ Some x → (y : Y) × (f x ≡ Some y)) →
    (i : ℕ) → slice_get (filter_map f xs) i ≡ option_and_then f (slice_get xs i)
mapped_at f [] each i = refl
mapped_at {Y = Y} f (x ∷ xs) each i =
    by_some (f x) refl (each 0 x refl).0 (each 0 x refl).1 (mapped_at f xs (λ k y at. each (suc k) y at)) i
  where
    by_some : (o : Option Y) → f x ≡ o → (y : Y) → f x ≡ Some y →
        ((j : ℕ) → slice_get (filter_map f xs) j ≡ option_and_then f (slice_get xs j)) →
        (j : ℕ) → slice_get (cons_option o (filter_map f xs)) j ≡ option_and_then f (slice_get (x ∷ xs) j)
    by_some None e y some again j = not_none (sym e ∙ some)
    by_some (Some z) e y some again zero = sym e
    by_some (Some z) e y some again (suc j) = again j

pub mapped_length : {X Y : Type 0} (f : X → Option Y) (xs : List X) →
    ((i : ℕ) (x : X) → slice_get xs i ≡ Some x → (y : Y) × (f x ≡ Some y)) → length (filter_map f xs) ≡ length xs
mapped_length f [] each = refl
mapped_length {Y = Y} f (x ∷ xs) each =
    by_some (f x) refl (each 0 x refl).0 (each 0 x refl).1 (mapped_length f xs (λ k y at. each (suc k) y at))
  where
    by_some : (o : Option Y) → f x ≡ o → (y : Y) → f x ≡ Some y → length (filter_map f xs) ≡ length xs →
        length (cons_option o (filter_map f xs)) ≡ suc (length xs)
    by_some None e y some again = not_none (sym e ∙ some)
    by_some (Some z) e y some again = ap (λ n. suc n) again

-- lists of one length of whose elements two functions give the same
pub mapped_same : {X Z Y : Type 0} (f : X → Option Y) (g : Z → Option Y) (xs : List X) (zs : List Z) → length xs ≡ length zs →
    ((i : ℕ) (x : X) (z : Z) → slice_get xs i ≡ Some x → slice_get zs i ≡ Some z → f x ≡ g z) → filter_map f xs ≡ filter_map g zs
mapped_same f g [] [] same each = refl
mapped_same f g [] (z ∷ zs) same each = cc
mapped_same f g (x ∷ xs) [] same each = cc
mapped_same f g (x ∷ xs) (z ∷ zs) same each =
    ap (λ o. cons_option o (filter_map f xs)) (each 0 x z refl refl) ∙
    ap (cons_option (g z))
    (mapped_same f g xs zs (let e : length xs ≡ length zs = omega (arith, same) in e) (λ i y w at at'. each (suc i) y w at at'))

-- ---- lists place by place

pub zip_mapped : {X Y : Type 0} (R : X → Y → Type 0) (f : X → Y) (xs : List X) → ((x : X) → R x (f x)) → AllZip R xs (map f xs)
zip_mapped R f [] each = tt
zip_mapped R f (x ∷ xs) each = (each x, zip_mapped R f xs each)

-- ---- one more

pub mapped_more : {X Y : Type 0} (f : X → Option Y) (xs : List X) (i : ℕ) (d : X) (y : Y) → i < length xs → f (get_or xs i d) ≡ Some y →
    filter_map f (take (i + 1) xs) ≡ filter_map f (take i xs) ++ y ∷ []
mapped_more f xs i d y lt is =
    ap (filter_map f) (take_more xs i d lt) ∙ filter_map-append f (take i xs) (get_or xs i d ∷ [])
    ∙ ap (λ o. filter_map f (take i xs) ++ cons_option o []) is
