-- How many elements of a list pass a test: what depends on these counts alone does not see the order of the list.
use Rattle.std.specs.Prelude.{◌≡◌, ℕ, suc, ◌+◌, ◌≤◌, Bool, true, false, not, ◌&&◌, ◌||◌, if◌then◌else◌, leb, List, [], ◌∷◌, ◌++◌, filter}
use Rattle.std.specs.List.{filter_map, list_all, list_any}
use Rattle.std.specs.declared.option.Option.{Option}
use Rattle.std.specs.declared.option.Option.TheVariants.{None, Some}
use Rattle.std.proofs.Common.{refl, sym, ap, ap₂, ◌∙◌, arith}
use Rattle.std.proofs.lemmas.Bool.{false_from_ne_true, le-leb, leb-true, or_parts}
use Rattle.shape_data.specs.declared.symbolic.Exp.{Exp}
use Rattle.sym_parts.specs.Laws.Expressions.{has_double, is_among, same_exp}
use Rattle.sym_parts.proofs.LawsLemmas.ExpressionLemmas.{same_exp-equal, same_exp-itself}

-- how many pass the test
abbrev pub count : {A : Type 0} → (A → Bool) → List A → ℕ
count test [] = 0
count test (x ∷ xs) = if test x then suc (count test xs) else count test xs

-- as many pass each test
abbrev pub SameCounts : {A : Type 0} → List A → List A → Type 0
SameCounts {A} xs ys = (test : A → Bool) → count test xs ≡ count test ys

module _ {A : Type 0} (test : A → Bool) where
  pub count-append : (xs ys : List A) → count test (xs ++ ys) ≡ count test xs + count test ys
  count-append [] ys = omega arith
  count-append (x ∷ xs) ys = by_test (test x) refl (count-append xs ys)
    where
      by_test : (b : Bool) → test x ≡ b → count test (xs ++ ys) ≡ count test xs + count test ys →
          count test (x ∷ xs ++ ys) ≡ count test (x ∷ xs) + count test ys
      by_test true e k = rw e (omega (arith, k))
      by_test false e k = rw e k

  -- those that pass another test, and those that don't
  pub count-parted : (other : A → Bool) (xs : List A) →
      count test (filter other xs) + count test (filter (λ x. not (other x)) xs) ≡ count test xs
  count-parted other [] = omega arith
  count-parted other (x ∷ xs) = by_other (other x) refl (count-parted other xs)
    where
      by_both : (b : Bool) → test x ≡ b → count test (filter other xs) + count test (filter (λ y. not (other y)) xs) ≡ count test xs →
          (count test (x ∷ filter other xs) + count test (filter (λ y. not (other y)) xs) ≡ count test (x ∷ xs))
          × (count test (filter other xs) + count test (x ∷ filter (λ y. not (other y)) xs) ≡ count test (x ∷ xs))
      by_both true e k = rw e (omega (arith, k), omega (arith, k))
      by_both false e k = rw e (k, k)

      by_other : (b : Bool) → other x ≡ b → count test (filter other xs) + count test (filter (λ y. not (other y)) xs) ≡ count test xs →
          count test (filter other (x ∷ xs)) + count test (filter (λ y. not (other y)) (x ∷ xs)) ≡ count test (x ∷ xs)
      by_other true e k = rw e (by_both (test x) refl k).0
      by_other false e k = rw e (by_both (test x) refl k).1

  -- some pass where the count is 1 or more
  pub any-count : (xs : List A) → list_any test xs ≡ leb 1 (count test xs)
  any-count [] = refl
  any-count (x ∷ xs) = by_test (test x) refl (any-count xs)
    where
      by_test : (b : Bool) → test x ≡ b → list_any test xs ≡ leb 1 (count test xs) → list_any test (x ∷ xs) ≡ leb 1 (count test (x ∷ xs))
      by_test true e k = rw e (sym (le-leb 1 (suc (count test xs)) (omega arith)))
      by_test false e k = rw e k

  pub none-count : (xs : List A) → list_any test xs ≡ false → count test xs ≡ 0
  none-count [] h = refl
  none-count (x ∷ xs) h = let parts = or_parts (test x) (list_any test xs) h in rw parts.0 (none-count xs parts.1)

  pub count-none : (xs : List A) → count test xs ≡ 0 → list_any test xs ≡ false
  count-none xs h =
      false_from_ne_true (list_any test xs)
      (λ some. let one : 1 ≤ count test xs = leb-true 1 (count test xs) (sym (any-count xs) ∙ some) in omega (arith, one, h))

  -- all pass where no one fails
  pub all-any : (xs : List A) → list_all test xs ≡ not (list_any (λ x. not (test x)) xs)
  all-any [] = refl
  all-any (x ∷ xs) = by_test (test x) refl (all-any xs)
    where
      by_test : (b : Bool) → test x ≡ b → list_all test xs ≡ not (list_any (λ y. not (test y)) xs) →
          list_all test (x ∷ xs) ≡ not (list_any (λ y. not (test y)) (x ∷ xs))
      by_test true e k = rw e k
      by_test false e k = rw e refl

-- tests that agree
module _ {A : Type 0} (test other : A → Bool) (agree : (x : A) → test x ≡ other x) where
  pub any-alike : (xs : List A) → list_any test xs ≡ list_any other xs
  any-alike [] = refl
  any-alike (x ∷ xs) = ap₂ (λ b d. b || d) (agree x) (any-alike xs)

  pub all-alike : (xs : List A) → list_all test xs ≡ list_all other xs
  all-alike [] = refl
  all-alike (x ∷ xs) = ap₂ (λ b d. b && d) (agree x) (all-alike xs)

  pub count-alike : (xs : List A) → count test xs ≡ count other xs
  count-alike [] = refl
  count-alike (x ∷ xs) = ap₂ (λ (b : Bool) n. if b then suc n else n) (agree x) (count-alike xs)

module _ {A : Type 0} (xs ys : List A) (same : SameCounts xs ys) where
  pub any-same : (test : A → Bool) → list_any test xs ≡ list_any test ys
  any-same test = any-count test xs ∙ ap (leb 1) (same test) ∙ sym (any-count test ys)

  pub all-same : (test : A → Bool) → list_all test xs ≡ list_all test ys
  all-same test = all-any test xs ∙ ap not (any-same (λ x. not (test x))) ∙ sym (all-any test ys)

-- ---- expressions that elements of a list stand for

-- what an element stands for is the expression
abbrev pub holds : Exp → Option Exp → Bool
holds e None = false
holds e (Some f) = same_exp e f

pub among-any : (e : Exp) (es : List Exp) → is_among e es ≡ list_any (same_exp e) es
among-any e [] = refl
among-any e (f ∷ fs) = ap (λ b. same_exp e f || b) (among-any e fs)

module _ {A : Type 0} (stands : A → Option Exp) where
  pub any-stands : (e : Exp) (xs : List A) → is_among e (filter_map stands xs) ≡ list_any (λ x. holds e (stands x)) xs
  any-stands e [] = refl
  any-stands e (x ∷ xs) = by_option (stands x) refl (any-stands e xs)
    where
      by_option : (o : Option Exp) → stands x ≡ o → is_among e (filter_map stands xs) ≡ list_any (λ y. holds e (stands y)) xs →
          is_among e (filter_map stands (x ∷ xs)) ≡ list_any (λ y. holds e (stands y)) (x ∷ xs)
      by_option None f k = rw f k
      by_option (Some g) f k = rw f (ap (λ b. same_exp e g || b) k)

  pub count-stands : (e : Exp) (xs : List A) → count (same_exp e) (filter_map stands xs) ≡ count (λ x. holds e (stands x)) xs
  count-stands e [] = refl
  count-stands e (x ∷ xs) = by_option (stands x) refl (count-stands e xs)
    where
      by_option : (o : Option Exp) → stands x ≡ o → count (same_exp e) (filter_map stands xs) ≡ count (λ y. holds e (stands y)) xs →
          count (same_exp e) (filter_map stands (x ∷ xs)) ≡ count (λ y. holds e (stands y)) (x ∷ xs)
      by_option None f k = rw f k
      by_option (Some g) f k = rw f (ap (λ n. if same_exp e g then suc n else n) k)

-- ---- doubles

-- each expression stands once at most
abbrev pub AreSingle : List Exp → Type 0
AreSingle es = (e : Exp) → count (same_exp e) es ≤ 1

pub single-from : (es : List Exp) → has_double es ≡ false → AreSingle es
single-from [] h e = omega arith
single-from (f ∷ fs) h e =
    let parts = or_parts (is_among f fs) (has_double fs) h in by_test (same_exp e f) refl parts.0 (single-from fs parts.1 e)
  where
    by_test : (b : Bool) → same_exp e f ≡ b → is_among f fs ≡ false → count (same_exp e) fs ≤ 1 → count (same_exp e) (f ∷ fs) ≤ 1
    by_test true g apart few =
        let same : e ≡ f = same_exp-equal e f g in
        let none : count (same_exp f) fs ≡ 0 = none-count (same_exp f) fs (sym (among-any f fs) ∙ apart) in
        let zero : count (same_exp e) fs ≡ 0 = rw same none in
        rw g (omega (arith, zero))
    by_test false g apart few = rw g few

pub single-to : (es : List Exp) → AreSingle es → has_double es ≡ false
single-to [] h = refl
single-to (f ∷ fs) h = rw (apart, single-to fs fewer) refl
  where
    none : count (same_exp f) fs ≡ 0
    none = let first : suc (count (same_exp f) fs) ≤ 1 = rw (same_exp-itself f) at (h f) in omega (arith, first)

    apart : is_among f fs ≡ false
    apart = among-any f fs ∙ count-none (same_exp f) fs none

    fewer : AreSingle fs
    fewer e = by_test (same_exp e f) refl (h e)
      where
        by_test : (b : Bool) → same_exp e f ≡ b → count (same_exp e) (f ∷ fs) ≤ 1 → count (same_exp e) fs ≤ 1
        by_test true g k = let all : suc (count (same_exp e) fs) ≤ 1 = rw g at k in omega (arith, all)
        by_test false g k = rw g at k

-- two tests each of which is false where the other is are equal
pub alike : (b d : Bool) → (b ≡ false → d ≡ false) → (d ≡ false → b ≡ false) → b ≡ d
alike true true f g = refl
alike true false f g = g refl
alike false true f g = sym (f refl)
alike false false f g = refl
