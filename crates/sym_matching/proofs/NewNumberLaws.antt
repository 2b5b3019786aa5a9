-- New numbers for variables: those that are not listed keep theirs, so logical ones do where existential ones are listed.
use Rattle.std.specs.Prelude.{◌≡◌, ℕ, ◌==◌, ◌<◌, ◌≤◌, leb, Bool, true, false, ◌||◌, List, [], ◌∷◌, ◌++◌, filter, length}
use Rattle.std.proofs.Common.{refl, sym, ap, ◌∙◌, arith, ⊎_elim}
use Rattle.std.proofs.lemmas.Bool.{eqb-true, leb-true, or_cases}
use Rattle.std.proofs.lemmas.List.Folds.{list_any-append}
use Rattle.sym_parts.specs.Laws.Fresh.{is_one_of}
use Rattle.sym_matching.specs.NewVariables.{at_its_place, distinct, distinct_behind, fresh_variables, number_apart}

-- ---- lists

pub passed : (test : ℕ → Bool) (xs : List ℕ) (x : ℕ) → is_one_of (filter test xs) x ≡ true → test x ≡ true
passed test [] x h = cc
passed test (y ∷ xs) x h = by_test (passed test xs x) (test y) refl
  where
    by_test : (is_one_of (filter test xs) x ≡ true → test x ≡ true) → (b : Bool) → test y ≡ b → test x ≡ true
    by_test later true e =
        let all : is_one_of (y ∷ filter test xs) x ≡ true = rw e at h in
        ⊎_elim (λ here. let same : x ≡ y = eqb-true x y here in ap test same ∙ e) later
        (or_cases (x == y) (is_one_of (filter test xs) x) all)
    by_test later false e = let all : is_one_of (filter test xs) x ≡ true = rw e at h in later all

-- ---- each once

same_either : (a b c : Bool) → (b ≡ true → a ≡ true) → (a || (b || c)) ≡ (a || c)
same_either true b c from = refl
same_either false true c from = let wrong : false ≡ true = from refl in cc
same_either false false c from = refl

either_right : (a b c : Bool) → ((a || (b || false)) || c) ≡ (a || (b || c))
either_right true b c = refl
either_right false true c = refl
either_right false false c = refl

-- the list has what stood in front and what was listed, and nothing else
pub distinct_behind-has : (xs names : List ℕ) (x : ℕ) → is_one_of (distinct_behind names xs) x ≡ (is_one_of names x || is_one_of xs x)
distinct_behind-has [] names x = or_none (is_one_of names x)
  where
    or_none : (a : Bool) → a ≡ (a || false)
    or_none true = refl
    or_none false = refl
distinct_behind-has (y ∷ xs) names x =
    by_test (is_one_of names y) refl (distinct_behind-has xs names x) (distinct_behind-has xs (names ++ y ∷ []) x)
  where
    found : is_one_of names y ≡ true → (x == y) ≡ true → is_one_of names x ≡ true
    found e h = rw (eqb-true x y h) e

    by_test : (b : Bool) → is_one_of names y ≡ b → is_one_of (distinct_behind names xs) x ≡ (is_one_of names x || is_one_of xs x) →
        is_one_of (distinct_behind (names ++ y ∷ []) xs) x ≡ (is_one_of (names ++ y ∷ []) x || is_one_of xs x) →
        is_one_of (distinct_behind names (y ∷ xs)) x ≡ (is_one_of names x || is_one_of (y ∷ xs) x)
    by_test true e there new = rw e (there ∙ sym (same_either (is_one_of names x) (x == y) (is_one_of xs x) (found e)))
    by_test false e there new =
        let more : is_one_of (names ++ y ∷ []) x ≡ (is_one_of names x || ((x == y) || false)) =
        list_any-append (λ name. x == name) names (y ∷ []) in
        rw e (new ∙ ap (λ a. a || is_one_of xs x) more ∙ either_right (is_one_of names x) (x == y) (is_one_of xs x))

pub distinct-has : (xs : List ℕ) (x : ℕ) → is_one_of (distinct xs) x ≡ is_one_of xs x
distinct-has xs x = distinct_behind-has xs [] x

-- ---- places

-- a variable that is not listed keeps its number
pub place-none : (variables numbers : List ℕ) (x : ℕ) → is_one_of variables x ≡ false → at_its_place variables numbers x ≡ x
place-none [] numbers x none = refl
place-none (variable ∷ variables) [] x none = refl
place-none (variable ∷ variables) (number ∷ numbers) x none = by_test (x == variable) refl (place-none variables numbers x)
  where
    by_test : (b : Bool) → (x == variable) ≡ b → (is_one_of variables x ≡ false → at_its_place variables numbers x ≡ x) →
        at_its_place (variable ∷ variables) (number ∷ numbers) x ≡ x
    by_test true e later = let wrong : true ≡ false = rw e at none in cc
    by_test false e later = let rest : is_one_of variables x ≡ false = rw e at none in rw e (later rest)

-- logical variables keep their numbers where existential ones get new ones
pub logical_stays : (used xs : List ℕ) (x : ℕ) → x < 65536 → number_apart used (filter (λ y. leb 65536 y) xs) x ≡ x
logical_stays used xs x low =
    place-none (distinct (filter (λ y. leb 65536 y) xs)) (fresh_variables (length (distinct (filter (λ y. leb 65536 y) xs))) used) x
    (distinct-has (filter (λ y. leb 65536 y) xs) x ∙ by_test (is_one_of (filter (λ y. leb 65536 y) xs) x) refl)
  where
    by_test : (b : Bool) → is_one_of (filter (λ y. leb 65536 y) xs) x ≡ b → b ≡ false
    by_test true e = let above : 65536 ≤ x = leb-true 65536 x (passed (λ y. leb 65536 y) xs x e) in absurd (omega arith)
    by_test false e = refl
