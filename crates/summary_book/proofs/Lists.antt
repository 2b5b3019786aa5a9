-- Places in lists, and lists side by side.
use Rattle.std.proofs.Common.{◌≡◌, ℕ, zero, suc, ◌<◌, ◌==◌, nat_lt, Bool, true, false, cond, not, ◌⊎◌, List, [], ◌∷◌, ◌++◌, length}
use Rattle.std.proofs.Common.{slice_get, get_or, Some, None, Option, refl, sym, ap, ◌∙◌, subst, ⊎_elim, find, arith, AllPairs}
use Rattle.std.specs.List.{AllZip, position, position_or_len, filter, remove}
use Rattle.std.proofs.lemmas.Bool.{cases_lt}
use Rattle.std.proofs.lemmas.Bool.Decides.{Decides-eqb, Decides-ltb}
use Rattle.std.proofs.lemmas.List.Folds.{find_at}
use Rattle.std.proofs.lemmas.List.Quantifiers.{position-Some}
use Rattle.std.proofs.lemmas.List.Sums.{position_or_len_is}
use Rattle.std.proofs.lemmas.Option.{slice_get-get_or, get_or_from_slice_get, slice_get_within}
use Rattle.component_keys.proofs.Basics.{not_none, some_same, found, is_found}

-- ---- the first that passes, by its place

pub position_at : {X : Type 0} (p : X → Bool) (xs : List X) (i : ℕ) (x : X) → slice_get xs i ≡ Some x → p x ≡ true →
    ((j : ℕ) (y : X) → j < i → slice_get xs j ≡ Some y → p y ≡ false) →
    position p xs ≡ Some i
position_at p xs i x at passes before =
    let lt : i < length xs = slice_get_within xs i x at in
    let is : position_or_len p xs ≡ i =
    position_or_len_is p xs i x (omega (arith, lt)) (λ k l. before k (get_or xs k x) l (slice_get-get_or xs k x (omega (arith, l, lt))))
    (λ l. subst (λ y. p y ≡ true) (sym (get_or_from_slice_get xs i x x at)) passes) in
    ap (λ n. cond (nat_lt n (length xs)) (Some n) None) is ∙ ap (λ b. cond b (Some i) None) ((Decides-ltb i (length xs)).1 lt)

not_less : (n : ℕ) → nat_lt n n ≡ false
not_less n = by_test (nat_lt n n) refl
  where
    by_test : (b : Bool) → nat_lt n n ≡ b → b ≡ false
    by_test false e = refl
    by_test true e = absurd (let lt : n < n = (Decides-ltb n n).0 e in omega (arith, lt))

pub position_none : {X : Type 0} (p : X → Bool) (xs : List X) → ((j : ℕ) (y : X) → slice_get xs j ≡ Some y → p y ≡ false) →
    position p xs ≡ None
position_none p [] fails = refl
position_none p (first ∷ others) fails =
    let xs = first ∷ others in
    let is : position_or_len p xs ≡ length xs =
    position_or_len_is p xs (length xs) first (omega arith) (λ k l. fails k (get_or xs k first) (slice_get-get_or xs k first l))
    (λ l. absurd (omega (arith, l))) in
    ap (λ n. cond (nat_lt n (length xs)) (Some n) None) is ∙ ap (λ b. cond b (Some (length xs)) None) (not_less (length xs))

pub position_found : {X : Type 0} (p : X → Bool) (xs : List X) (i : ℕ) → position p xs ≡ Some i →
    (x : X) × (slice_get xs i ≡ Some x) × (p x ≡ true)
position_found p [] i e = not_none e
position_found p (first ∷ others) i e =
    let there = position-Some p (first ∷ others) i first e in
    (get_or (first ∷ others) i first, slice_get-get_or (first ∷ others) i first there.0, there.1)

-- what is found stands at the place
pub find_place : {X : Type 0} (p : X → Bool) (xs : List X) (i : ℕ) → position p xs ≡ Some i → find p xs ≡ slice_get xs i
find_place p xs i e = find_at p xs ∙ ap (slice_get xs) (by_test (nat_lt (position_or_len p xs) (length xs)) e)
  where
    by_test : (b : Bool) → cond b (Some (position_or_len p xs)) None ≡ Some i → position_or_len p xs ≡ i
    by_test true f = some_same f
    by_test false f = not_none f

pub position_missing : {X : Type 0} (p : X → Bool) (xs : List X) → position p xs ≡ None → (j : ℕ) (y : X) → slice_get xs j ≡ Some y →
    p y ≡ false
position_missing {X = X} p xs none j y at = by_test (p y) refl
  where
    within : (z : X) → find p xs ≡ Some z → position_or_len p xs < length xs
    within z f = slice_get_within xs (position_or_len p xs) z (sym (find_at p xs) ∙ f)

    by_test : (b : Bool) → p y ≡ b → b ≡ false
    by_test false e = refl
    by_test true e =
        let there = is_found p xs j y at e in
        absurd (not_none
        (sym none ∙ ap (λ b. cond b (Some (position_or_len p xs)) None)
        ((Decides-ltb (position_or_len p xs) (length xs)).1 (within there.0 there.1))))

pub find_none : {X : Type 0} (p : X → Bool) (xs : List X) → ((j : ℕ) (y : X) → slice_get xs j ≡ Some y → p y ≡ false) → find p xs ≡ None
find_none {X = X} p xs fails = by_found (find p xs) refl
  where
    by_found : (o : Option X) → find p xs ≡ o → o ≡ None
    by_found None e = refl
    by_found (Some x) e = let there = found p xs x e in absurd (let f : p x ≡ false = fails there.1.0 x there.1.1 in let t = there.0 in cc)

-- ---- lists side by side

pub zipped_without : {X Y : Type 0} (R : X → Y → Type 0) (xs : List X) (ys : List Y) (i : ℕ) → AllZip R xs ys →
    AllZip R (remove xs i) (remove ys i)
zipped_without R [] [] zero h = tt
zipped_without R [] [] (suc i) h = tt
zipped_without R [] (y ∷ ys) i h = absurd h
zipped_without R (x ∷ xs) [] i h = absurd h
zipped_without R (x ∷ xs) (y ∷ ys) zero h = h.1
zipped_without R (x ∷ xs) (y ∷ ys) (suc i) h = (h.0, zipped_without R xs ys i h.1)

-- two relations in turn
pub zipped_through : {X Y Z : Type 0} (R : X → Z → Type 0) (S : X → Y → Type 0) (T : Y → Z → Type 0) (xs : List X) (ys : List Y)
    (zs : List Z) → ((x : X) (y : Y) (z : Z) → R x z → S x y → T y z) →
    AllZip R xs zs → AllZip S xs ys → AllZip T ys zs
zipped_through R S T [] [] [] f h k = tt
zipped_through R S T [] [] (z ∷ zs) f h k = absurd h
zipped_through R S T [] (y ∷ ys) zs f h k = absurd k
zipped_through R S T (x ∷ xs) [] zs f h k = absurd k
zipped_through R S T (x ∷ xs) (y ∷ ys) [] f h k = absurd h
zipped_through R S T (x ∷ xs) (y ∷ ys) (z ∷ zs) f h k = (f x y z h.0 k.0, zipped_through R S T xs ys zs f h.1 k.1)

pub zipped_at_end : {X Y : Type 0} (R : X → Y → Type 0) (xs : List X) (ys : List Y) (x : X) (y : Y) → AllZip R xs ys → R x y →
    AllZip R (xs ++ x ∷ []) (ys ++ y ∷ [])
zipped_at_end R [] [] x y h r = (r, tt)
zipped_at_end R [] (first ∷ ys) x y h r = absurd h
zipped_at_end R (first ∷ xs) [] x y h r = absurd h
zipped_at_end R (first ∷ xs) (second ∷ ys) x y h r = (h.0, zipped_at_end R xs ys x y h.1 r)

-- ---- one left out

-- the one that is left out by its number stands at its place
pub without_place : {X : Type 0} (number_of : X → ℕ) (xs : List X) (i number : ℕ) (x : X) → slice_get xs i ≡ Some x → number_of x ≡ number →
    ((j : ℕ) (y : X) → slice_get xs j ≡ Some y → number_of y ≡ number → j ≡ i) → filter (λ y. not (number_of y == number)) xs ≡ remove xs i
without_place number_of [] i number x at is only = not_none at
without_place {X = X} number_of (first ∷ xs) zero number x at is only =
    let own : (number_of first == number) ≡ true = (Decides-eqb (number_of first) number).1 (ap number_of (some_same at) ∙ is) in
    rw own (none_other xs (λ j y there same. absurd (let e : suc j ≡ zero = only (suc j) y there same in omega (arith, e))))
  where
    none_other : (ys : List X) → ((j : ℕ) (y : X) → slice_get ys j ≡ Some y → number_of y ≡ number → ⊥) →
        filter (λ y. not (number_of y == number)) ys ≡ ys
    none_other [] none = refl
    none_other (y ∷ ys) none = by_test (number_of y == number) refl (none_other ys (λ j z. none (suc j) z))
      where
        by_test : (b : Bool) → (number_of y == number) ≡ b → filter (λ z. not (number_of z == number)) ys ≡ ys →
            cond (not b) (y ∷ filter (λ z. not (number_of z == number)) ys) (filter (λ z. not (number_of z == number)) ys) ≡ y ∷ ys
        by_test true e again = absurd (none zero y refl ((Decides-eqb (number_of y) number).0 e))
        by_test false e again = ap (λ l. y ∷ l) again
without_place {X = X} number_of (first ∷ xs) (suc i) number x at is only =
    by_test (number_of first == number) refl
    (without_place number_of xs i number x at is (λ j y there same. let e : suc j ≡ suc i = only (suc j) y there same in omega (arith, e)))
  where
    by_test : (b : Bool) → (number_of first == number) ≡ b → filter (λ y. not (number_of y == number)) xs ≡ remove xs i →
        cond (not b) (first ∷ filter (λ y. not (number_of y == number)) xs) (filter (λ y. not (number_of y == number)) xs)
        ≡ first ∷ remove xs i
    by_test true e again =
        absurd (let f : zero ≡ suc i = only zero first refl ((Decides-eqb (number_of first) number).0 e) in omega (arith, f))
    by_test false e again = ap (λ l. first ∷ l) again

-- rising numbers differ
pub rising_differ : {X : Type 0} (number_of : X → ℕ) (xs : List X) → AllPairs (λ x y. number_of x < number_of y) xs → (i j : ℕ) (x y : X) →
    slice_get xs i ≡ Some x → slice_get xs j ≡ Some y →
    number_of x ≡ number_of y → i ≡ j
rising_differ number_of xs rising i j x y at_i at_j same =
    let i_lt : i < length xs = slice_get_within xs i x at_i in
    let j_lt : j < length xs = slice_get_within xs j y at_j in
    let x_is : get_or xs i x ≡ x = get_or_from_slice_get xs i x x at_i in
    let y_is : get_or xs j x ≡ y = get_or_from_slice_get xs j y x at_j in
    ⊎_elim (λ lt. absurd
    (let less : number_of (get_or xs i x)
    < number_of (get_or xs j x) =
    rising i j x lt j_lt in let one = ap number_of x_is in let two = ap number_of y_is in omega (arith, less, one, two, same)))
    (λ le. ⊎_elim
    (λ lt. absurd
    (let less : number_of (get_or xs j x)
    < number_of (get_or xs i x) =
    rising j i x lt i_lt in let one = ap number_of x_is in let two = ap number_of y_is in omega (arith, less, one, two, same)))
    (λ ge. omega (arith, le, ge)) (cases_lt j i)) (cases_lt i j)
