-- What is reached is the least set with the procedure in it that holds whom its members call.
use Rattle.std.proofs.Common.{◌≡◌, ℕ, zero, suc, ◌+◌, ◌<◌, ◌≤◌, ◌==◌, Bool, true, false, cond, ◌||◌, not, List, [], ◌∷◌, ◌++◌, length}
use Rattle.std.proofs.Common.{slice_get, Some, None, Option, refl, sym, ap, ◌∙◌, subst, ⊎_elim, ◌⊎◌, inl, inr, find, arith, le_refl}
use Rattle.std.specs.List.{list_any, range_with_len}
use Rattle.std.proofs.lemmas.Bool.Decides.{Decides-eqb}
use Rattle.std.proofs.lemmas.List.FromFn.{length-range_with_len}
use Rattle.component_keys.specs.Components.{holds, calls_of, is_called_new, with_called, reached_after, reached_from, reached}
use Rattle.component_keys.proofs.Basics.{both_true, one_true, not_true, not_none, some_same, found, is_found, at_left, at_end, at_push}
use Rattle.component_keys.proofs.Ordered.{some_passes, held_at}

-- ---- numbers that a list holds

pub any_passes : {X : Type 0} (p : X → Bool) (xs : List X) (i : ℕ) (x : X) → slice_get xs i ≡ Some x → p x ≡ true → list_any p xs ≡ true
any_passes p [] i x e t = not_none e
any_passes p (first ∷ xs) zero x e t = rw (subst (λ y. p y ≡ true) (sym (some_same e)) t) refl
any_passes p (first ∷ xs) (suc i) x e t = by_test (p first) (any_passes p xs i x e t)
  where
    by_test : (b : Bool) → list_any p xs ≡ true → (b || list_any p xs) ≡ true
    by_test true u = refl
    by_test false u = u

pub holds_at : (numbers : List ℕ) (i number : ℕ) → slice_get numbers i ≡ Some number → holds numbers number ≡ true
holds_at numbers i number e = any_passes (λ other. other == number) numbers i number e ((Decides-eqb number number).1 refl)

pub holds_left : (numbers : List ℕ) (new number : ℕ) → holds numbers number ≡ true → holds (numbers ++ new ∷ []) number ≡ true
holds_left numbers new number h =
    let place =
    held_at numbers number h in holds_at (numbers ++ new ∷ []) place.0 number (at_left numbers (new ∷ []) place.0 number place.1)

pub holds_end : (numbers : List ℕ) (new : ℕ) → holds (numbers ++ new ∷ []) new ≡ true
holds_end numbers new = holds_at (numbers ++ new ∷ []) (length numbers) new (at_end numbers new)

pub holds_cases : (numbers : List ℕ) (new number : ℕ) → holds (numbers ++ new ∷ []) number ≡ true →
    (holds numbers number ≡ true) ⊎ (number ≡ new)
holds_cases numbers new number h =
    let place = held_at (numbers ++ new ∷ []) number h in
    ⊎_elim (λ old. inl (holds_at numbers place.0 number old)) (λ end. inr end.1) (at_push numbers new place.0 number place.1)

-- ---- the least

-- whom its members call is in it
abbrev pub IsClosed : List (List ℕ) → List ℕ → Type 0
IsClosed calls seen = (one callee : ℕ) → holds seen one ≡ true → holds (calls_of calls one) callee ≡ true → callee < length calls →
    holds seen callee ≡ true

reached_least : (turns : ℕ) (calls : List (List ℕ)) (seen : List ℕ) (P : ℕ → Type 0) →
    ((one callee : ℕ) → P one → holds (calls_of calls one) callee ≡ true → P callee) →
    ((number : ℕ) → holds seen number ≡ true → P number) → (number : ℕ) → holds (reached_after turns calls seen) number ≡ true → P number
reached_least zero calls seen P closed start number h = start number h
reached_least (suc turns) calls seen P closed start number h =
    by_found (find (is_called_new calls seen) (range_with_len 0 (length calls))) refl (reached_least turns calls) h
  where
    by_found : (o : Option ℕ) → find (is_called_new calls seen) (range_with_len 0 (length calls)) ≡ o →
        ((more : List ℕ) (Q : ℕ → Type 0) → ((one callee : ℕ) → Q one → holds (calls_of calls one) callee ≡ true → Q callee) →
        ((n : ℕ) → holds more n ≡ true → Q n) →
        (n : ℕ) → holds (reached_after turns calls more) n ≡ true → Q n) →
        holds (with_called (reached_after turns calls) seen o) number ≡ true → P number
    by_found None e again held = start number held
    by_found (Some new) e again held =
        let tests = both_true (not (holds seen new)) _ (found (is_called_new calls seen) (range_with_len 0 (length calls)) new e).0 in
        let caller = some_passes (λ one. holds (calls_of calls one) new) seen tests.1 in
        again (seen ++ new ∷ []) P closed
        (λ n m. ⊎_elim (start n)
        (λ same. subst P (sym same) (closed caller.1 new (start caller.1 (holds_at seen caller.0 caller.1 caller.2)) caller.3))
        (holds_cases seen new n m)) number held

-- ---- closed

-- how many pass
abbrev pub passing : {X : Type 0} → (X → Bool) → List X → ℕ
passing p [] = 0
passing p (x ∷ xs) = cond (p x) (suc (passing p xs)) (passing p xs)

pub fewer_or_same : {X : Type 0} (p q : X → Bool) (xs : List X) → ((x : X) → q x ≡ true → p x ≡ true) → passing q xs ≤ passing p xs
fewer_or_same p q [] h = le_refl 0
fewer_or_same p q (x ∷ xs) h = by_test (q x) (p x) refl refl (fewer_or_same p q xs h)
  where
    by_test : (b c : Bool) → q x ≡ b → p x ≡ c → passing q xs ≤ passing p xs →
        cond b (suc (passing q xs)) (passing q xs) ≤ cond c (suc (passing p xs)) (passing p xs)
    by_test true true e f le = omega (arith, le)
    by_test true false e f le = absurd (let t : p x ≡ true = h x e in cc)
    by_test false true e f le = omega (arith, le)
    by_test false false e f le = le

pub fewer : {X : Type 0} (p q : X → Bool) (xs : List X) → ((x : X) → q x ≡ true → p x ≡ true) → (i : ℕ) (x : X) → slice_get xs i ≡ Some x →
    p x ≡ true → q x ≡ false → passing q xs < passing p xs
fewer p q [] h i x e t f = not_none e
fewer p q (first ∷ xs) h zero x e t f =
    let first_in : p first ≡ true = subst (λ y. p y ≡ true) (sym (some_same e)) t in
    let first_out : q first ≡ false = subst (λ y. q y ≡ false) (sym (some_same e)) f in
    let rest : passing q xs ≤ passing p xs = fewer_or_same p q xs h in
    rw (first_in, first_out) (omega (arith, rest))
fewer p q (first ∷ xs) h (suc i) x e t f = by_test (q first) (p first) refl refl (fewer p q xs h i x e t f)
  where
    by_test : (b c : Bool) → q first ≡ b → p first ≡ c → passing q xs < passing p xs →
        cond b (suc (passing q xs)) (passing q xs) < cond c (suc (passing p xs)) (passing p xs)
    by_test true true g k lt = omega (arith, lt)
    by_test true false g k lt = absurd (let u : p first ≡ true = h first g in cc)
    by_test false true g k lt = omega (arith, lt)
    by_test false false g k lt = lt

pub range_at : (from count i : ℕ) → i < count → slice_get (range_with_len from count) i ≡ Some (from + i)
range_at from zero i lt = absurd (omega (arith, lt))
range_at from (suc count) zero lt = ap (λ n. Some n) (omega arith)
range_at from (suc count) (suc i) lt =
    let less : i < count = omega (arith, lt) in range_at (from + 1) count i less ∙ ap (λ n. Some n) (omega arith)

pub none_found : {X : Type 0} (p : X → Bool) (xs : List X) (i : ℕ) (x : X) → find p xs ≡ None → slice_get xs i ≡ Some x → p x ≡ false
none_found p xs i x none at = by_test (p x) refl
  where
    by_test : (b : Bool) → p x ≡ b → p x ≡ false
    by_test false e = e
    by_test true e = let one = is_found p xs i x at e in not_none (sym none ∙ one.1)

-- a number below that is not reached
abbrev is_unseen : List ℕ → ℕ → Bool
is_unseen seen number = not (holds seen number)

reached_closed : (turns : ℕ) (calls : List (List ℕ)) (seen : List ℕ) → passing (is_unseen seen) (range_with_len 0 (length calls)) ≤ turns →
    IsClosed calls (reached_after turns calls seen)
reached_closed zero calls seen few = λ one callee h c lt. by_test callee lt (holds seen callee) refl
  where
    by_test : (callee : ℕ) → callee < length calls → (b : Bool) → holds seen callee ≡ b → b ≡ true
    by_test callee lt true e = refl
    by_test callee lt false e =
        let some : passing (λ (n : ℕ). false) (range_with_len 0 (length calls))
        < passing (is_unseen seen) (range_with_len 0 (length calls)) =
        fewer (is_unseen seen) (λ n. false) (range_with_len 0 (length calls)) (λ x f. cc) callee callee
        (range_at 0 (length calls) callee lt ∙ ap (λ n. Some n) (omega arith)) (ap not e) refl in
        absurd (omega (arith, some, few))
reached_closed (suc turns) calls seen few =
    by_found (find (is_called_new calls seen) (range_with_len 0 (length calls))) refl (reached_closed turns calls)
  where
    by_found : (o : Option ℕ) → find (is_called_new calls seen) (range_with_len 0 (length calls)) ≡ o →
        ((more : List ℕ) → passing (is_unseen more) (range_with_len 0 (length calls)) ≤ turns →
        IsClosed calls (reached_after turns calls more)) →
        IsClosed calls (with_called (reached_after turns calls) seen o)
    by_found None e again = λ one callee h c lt. none_new one callee h c lt e (holds seen callee) refl
      where
        none_new : (one callee : ℕ) → holds seen one ≡ true → holds (calls_of calls one) callee ≡ true → callee < length calls →
            find (is_called_new calls seen) (range_with_len 0 (length calls)) ≡ None → (b : Bool) → holds seen callee ≡ b → b ≡ true
        none_new one callee h c lt none true f = refl
        none_new one callee h c lt none false f =
            let place = held_at seen one h in
            let called : list_any (λ n. holds (calls_of calls n) callee) seen ≡ true =
            any_passes (λ n. holds (calls_of calls n) callee) seen place.0 one place.1 c in
            let is_new : is_called_new calls seen callee ≡ true = rw (f, called) refl in
            let is_not : is_called_new calls seen callee ≡ false =
            none_found (is_called_new calls seen) (range_with_len 0 (length calls)) callee callee none
            (range_at 0 (length calls) callee lt ∙ ap (λ n. Some n) (omega arith)) in
            cc
    by_found (Some new) e again =
        let there = found (is_called_new calls seen) (range_with_len 0 (length calls)) new e in
        let tests = both_true (not (holds seen new)) _ there.0 in
        let less : passing (is_unseen (seen ++ new ∷ [])) (range_with_len 0 (length calls))
        < passing (is_unseen seen) (range_with_len 0 (length calls)) =
        fewer (is_unseen seen) (is_unseen (seen ++ new ∷ [])) (range_with_len 0 (length calls))
        (λ x f. still_unseen x f (holds seen x) refl) there.1.0 new there.1.1 tests.0 (ap not (holds_end seen new)) in
        again (seen ++ new ∷ []) (omega (arith, less, few))
      where
        still_unseen : (x : ℕ) → is_unseen (seen ++ new ∷ []) x ≡ true → (b : Bool) → holds seen x ≡ b → not b ≡ true
        still_unseen x f false g = refl
        still_unseen x f true g = let t : holds (seen ++ new ∷ []) x
            ≡ true = holds_left seen new x g in let u : not (holds (seen ++ new ∷ []) x) ≡ true = f in let v : holds (seen ++ new ∷ []) x
            ≡ false = not_true _ u in cc

pub passing_at_most : {X : Type 0} (p : X → Bool) (xs : List X) → passing p xs ≤ length xs
passing_at_most p [] = le_refl 0
passing_at_most {X = X} p (x ∷ xs) = by_test (p x) (passing_at_most p xs)
  where
    by_test : (b : Bool) → passing p xs ≤ length xs → cond b (suc (passing p xs)) (passing p xs) ≤ suc (length xs)
    by_test true le = omega (arith, le)
    by_test false le = omega (arith, le)

-- what is reached is closed
pub reached_from_is_closed : (calls : List (List ℕ)) (starts : List ℕ) → IsClosed calls (reached_from calls starts)
reached_from_is_closed calls starts =
    let few : passing (is_unseen starts) (range_with_len 0 (length calls)) ≤ length (range_with_len 0 (length calls)) =
    passing_at_most _ (range_with_len 0 (length calls)) in
    reached_closed (length calls) calls starts
    (subst (λ n. passing (is_unseen starts) (range_with_len 0 (length calls)) ≤ n) (length-range_with_len 0 (length calls)) few)

pub reached_is_closed : (calls : List (List ℕ)) (number : ℕ) → IsClosed calls (reached calls number)
reached_is_closed calls number = reached_from_is_closed calls (number ∷ [])

-- and it is within whatever has the starts and holds whom its members call
pub reached_from_is_least : (calls : List (List ℕ)) (starts : List ℕ) (P : ℕ → Type 0) →
    ((one callee : ℕ) → P one → holds (calls_of calls one) callee ≡ true → P callee) →
    ((number : ℕ) → holds starts number ≡ true → P number) → (other : ℕ) → holds (reached_from calls starts) other ≡ true → P other
reached_from_is_least calls starts P closed own other h = reached_least (length calls) calls starts P closed own other h

pub reached_is_least : (calls : List (List ℕ)) (number : ℕ) (P : ℕ → Type 0) →
    ((one callee : ℕ) → P one → holds (calls_of calls one) callee ≡ true → P callee) → P number →
    (other : ℕ) → holds (reached calls number) other ≡ true → P other
reached_is_least calls number P closed own other h =
    reached_least (length calls) calls (number ∷ []) P closed
    (λ n m. ⊎_elim (λ e. subst P ((Decides-eqb number n).0 e) own) (λ f. absurd (let g : false ≡ true = f in cc))
    (one_true (number == n) false m)) other h
