-- How many components are marked.
use Rattle.std.proofs.Common.{◌≡◌, ℕ, suc, ◌+◌, ◌<◌, ◌≤◌, Bool, true, false, cond, List, [], ◌∷◌, length, refl, sym, ap, ◌∙◌, subst, arith}
use Rattle.std.proofs.Common.{le_refl}
use Rattle.std.specs.List.{count_by, filter, range_with_len}
use Rattle.std.proofs.lemmas.List.Sums.{length-filter}
use Rattle.component_keys.proofs.Reach.{passing, passing_at_most}
use Rattle.call_components.specs.Reaching.{marked}
use Rattle.summary_book.specs.Book.{count_marked}

-- ---- by clauses

counted_is : {X : Type 0} (p : X → Bool) (xs : List X) → count_by p xs ≡ passing p xs
counted_is p xs = sym (length-filter p xs) ∙ filtered p xs
  where
    filtered : {Y : Type 0} (q : Y → Bool) (ys : List Y) → length (filter q ys) ≡ passing q ys
    filtered q [] = refl
    filtered {Y = Y} q (y ∷ ys) = by_test (q y) (filtered q ys)
      where
        by_test : (b : Bool) → length (filter q ys) ≡ passing q ys →
            length (cond b (y ∷ filter q ys) (filter q ys)) ≡ cond b (suc (passing q ys)) (passing q ys)
        by_test true e = ap (λ n. suc n) e
        by_test false e = e

pub marked_most : (marks : List Bool) → count_marked marks ≤ length marks
marked_most marks =
    subst (λ n. n ≤ length marks) (sym (counted_is (λ (mark : Bool). mark) marks)) (passing_at_most (λ (mark : Bool). mark) marks)

-- each marked place passes
marked_pass : (p : ℕ → Bool) (marks : List Bool) (from : ℕ) → ((place : ℕ) → marked marks place ≡ true → p (from + place) ≡ true) →
    passing (λ (mark : Bool). mark) marks ≤ passing p (range_with_len from (length marks))
marked_pass p [] from passes = le_refl 0
marked_pass p (mark ∷ marks) from passes =
    by_tests mark (p from) refl refl
    (marked_pass p marks (from + 1) (λ place h. subst (λ n. p n ≡ true) (omega arith) (passes (suc place) h)))
  where
    by_tests : (a b : Bool) → mark ≡ a → p from ≡ b →
        passing (λ (m : Bool). m) marks ≤ passing p (range_with_len (from + 1) (length marks)) →
        cond a (suc (passing (λ (m : Bool). m) marks)) (passing (λ (m : Bool). m) marks)
        ≤ cond b (suc (passing p (range_with_len (from + 1) (length marks)))) (passing p (range_with_len (from + 1) (length marks)))
    by_tests true true e f le = omega (arith, le)
    by_tests true false e f le =
        absurd (let t : p (from + 0) ≡ true = passes 0 e in let u : p from
        ≡ true = subst (λ n. p n ≡ true) (omega arith) t in let never : true ≡ false = sym u ∙ f in cc)
    by_tests false true e f le = omega (arith, le)
    by_tests false false e f le = le

pub marked_few : (p : ℕ → Bool) (marks : List Bool) (count : ℕ) → length marks ≡ count →
    ((place : ℕ) → marked marks place ≡ true → p place ≡ true) → count_marked marks ≤ count_by p (range_with_len 0 count)
marked_few p marks count lengths passes =
    let few : passing (λ (mark : Bool). mark) marks ≤ passing p (range_with_len 0 (length marks)) =
    marked_pass p marks 0 (λ place h. subst (λ n. p n ≡ true) (omega arith) (passes place h)) in
    subst (λ n. count_marked marks ≤ count_by p (range_with_len 0 n)) lengths
    (subst (λ n. n ≤ count_by p (range_with_len 0 (length marks))) (sym (counted_is (λ (mark : Bool). mark) marks))
    (subst (λ n. passing (λ (mark : Bool). mark) marks ≤ n) (sym (counted_is p (range_with_len 0 (length marks)))) few))

-- each that passes is marked
passing_marked : (p : ℕ → Bool) (marks : List Bool) (from : ℕ) →
    ((place : ℕ) → place < length marks → p (from + place) ≡ true → marked marks place ≡ true) →
    passing p (range_with_len from (length marks)) ≤ passing (λ (mark : Bool). mark) marks
passing_marked p [] from passes = le_refl 0
passing_marked p (mark ∷ marks) from passes =
    by_tests mark (p from) refl refl
    (passing_marked p marks (from + 1)
    (λ place lt h. let more : suc place < suc (length marks) = omega (arith, lt) in let same : (from + 1) + place
    ≡ from + suc place = omega arith in passes (suc place) more (subst (λ n. p n ≡ true) same h)))
  where
    by_tests : (a b : Bool) → mark ≡ a → p from ≡ b →
        passing p (range_with_len (from + 1) (length marks)) ≤ passing (λ (m : Bool). m) marks →
        cond b (suc (passing p (range_with_len (from + 1) (length marks)))) (passing p (range_with_len (from + 1) (length marks)))
        ≤ cond a (suc (passing (λ (m : Bool). m) marks)) (passing (λ (m : Bool). m) marks)
    by_tests true true e f le = omega (arith, le)
    by_tests true false e f le = omega (arith, le)
    by_tests false true e f le =
        absurd
        (let same : from ≡ from + 0 = omega arith in
        let first : 0 < suc (length marks) = omega arith in
        let t : mark ≡ true = passes 0 first (subst (λ n. p n ≡ true) same f) in
        let never : true ≡ false = sym t ∙ e in cc)
    by_tests false false e f le = le

pub aimed_few : (p : ℕ → Bool) (marks : List Bool) (count : ℕ) → length marks ≡ count →
    ((place : ℕ) → place < count → p place ≡ true → marked marks place ≡ true) → count_by p (range_with_len 0 count) ≤ count_marked marks
aimed_few p marks count lengths passes =
    let few : passing p (range_with_len 0 (length marks)) ≤ passing (λ (mark : Bool). mark) marks =
    passing_marked p marks 0
    (λ place lt h. let same : 0 + place
    ≡ place = omega arith in passes place (subst (λ n. place < n) lengths lt) (subst (λ n. p n ≡ true) same h)) in
    subst (λ n. count_by p (range_with_len 0 n) ≤ count_marked marks) lengths
    (subst (λ n. n ≤ count_marked marks) (sym (counted_is p (range_with_len 0 (length marks))))
    (subst (λ n. passing p (range_with_len 0 (length marks)) ≤ n) (sym (counted_is (λ (mark : Bool). mark) marks)) few))
