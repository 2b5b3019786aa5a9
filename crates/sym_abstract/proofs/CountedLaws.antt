-- What is asked of the counts is what the definitions ask of the list.
use Rattle.std.specs.Prelude.{◌≡◌, ℕ, ◌+◌, ◌<◌, ◌≤◌, min, Bool, true, false, cond, not, ◌==◌, ◌&&◌, ◌||◌, if◌then◌else◌, leb, ltb, List, []}
use Rattle.std.specs.Prelude.{◌∷◌, filter}
use Rattle.std.specs.List.{list_all}
use Rattle.std.proofs.Common.{refl, sym, ap, ap₂, ◌∙◌, arith}
use Rattle.std.proofs.lemmas.Bool.{eq-eqb, eqb-true, eqb-false, le-leb, leb-true, leb-false, ltb-true, ltb-false, lt-leb, ne_eqb}
use Rattle.std.proofs.lemmas.List.Sums.{sum_by-cons}
use Rattle.shape_data.specs.declared.symbolic.Atom.{Atom}
use Rattle.shape_data.specs.declared.symbolic.Atom.TheVariants.{Points, Seg, Junk}
use Rattle.shape_data.specs.declared.symbolic.Exp.{Exp}
use Rattle.shape_data.specs.declared.symbolic.Exp.TheVariants.{Var, Const}
use Rattle.shape_data.specs.declared.symbolic.Fact.{Fact}
use Rattle.shape_data.specs.declared.symbolic.Fact.TheVariants.{Eq, Ne}
use Rattle.shape_data.specs.declared.symbolic.SymHeap.{SymHeap}
use Rattle.sym_parts.specs.Laws.Expressions.{is_among, same_exp}
use Rattle.abstraction_laws.specs.Losing.{is_disequality_of, is_lost_among, without_disequalities}
use Rattle.abstraction_laws.specs.Occurrences.{exps_of_heap, times_in}
use Rattle.abstraction_laws.specs.Pairs.{is_further, is_lost_equation, made_existential}
use Rattle.abstraction_laws.specs.Reaching.{is_kept, is_reached}
use Rattle.sym_abstract.specs.Counted.{Counts, Times, counted, is_kept_by, is_lost_by, is_lost_equation_by, is_reached_by}
use Rattle.sym_abstract.specs.Counted.{made_existential_by}

-- an expression stands in the list where it stands there once or more
among-step : (b d : Bool) (m n : ℕ) → n ≡ cond b 1 0 + m → d ≡ leb 1 m → (b || d) ≡ leb 1 n
among-step true d m n e k = sym (le-leb 1 n (omega (arith, e)))
among-step false d m n e k = let same : n ≡ m = omega (arith, e) in rw same k

times-among : (e : Exp) (es : List Exp) → is_among e es ≡ leb 1 (times_in e es)
times-among e [] = refl
times-among e (f ∷ fs) =
    among-step (same_exp e f) (is_among e fs) (times_in e fs) (times_in e (f ∷ fs)) (sum_by-cons (λ g. cond (same_exp e g) 1 0) f fs)
    (times-among e fs)

least : (n : ℕ) → leb 1 (min 3 n) ≡ leb 1 n
least n = by_test (leb 1 n) refl
  where
    by_test : (b : Bool) → leb 1 n ≡ b → leb 1 (min 3 n) ≡ leb 1 n
    by_test true e = let some : 1 ≤ n = leb-true 1 n e in le-leb 1 (min 3 n) (omega (arith, some)) ∙ sym e
    by_test false e = let none : n < 1 = leb-false 1 n e in lt-leb 1 (min 3 n) (omega (arith, none)) ∙ sym e

twice : (n : ℕ) → (min 3 n == 2) ≡ (n == 2)
twice n = by_test (n == 2) refl
  where
    by_test : (b : Bool) → (n == 2) ≡ b → (min 3 n == 2) ≡ (n == 2)
    by_test true e = let two : n ≡ 2 = eqb-true n 2 e in eq-eqb (min 3 n) 2 (omega (arith, two)) ∙ sym e
    by_test false e = ne_eqb (min 3 n) 2 (λ same. eqb-false n 2 e (omega (arith, same))) ∙ sym e

module _ (counts : Times) (es : List Exp) (are : Counts counts es) where
  pub counted-among : (x : ℕ) → leb 1 (counted counts x) ≡ is_among (Var x) es
  counted-among x = ap (leb 1) (are x) ∙ (least (times_in (Var x) es) ∙ sym (times-among (Var x) es))

  pub counted-twice : (x : ℕ) → (counted counts x == 2) ≡ (times_in (Var x) es == 2)
  counted-twice x = ap (λ n. n == 2) (are x) ∙ twice (times_in (Var x) es)

  reached-same : (e : Exp) → is_reached_by counts e ≡ is_reached es e
  reached-same (Var x) = ap (λ b. ltb x 65536 || b) (counted-among x)
  reached-same (Const n) = refl

  pub kept-same : (atom : Atom) → is_kept_by counts atom ≡ is_kept es atom
  kept-same (Points at kind fields) = reached-same at
  kept-same (Seg kind link from to) = reached-same from
  kept-same Junk = refl

  lost-same : (low : ℕ) (e : Exp) → is_lost_by counts low e ≡ is_lost_among low es e
  lost-same low (Var x) = ap (λ b. leb low x && not b) (counted-among x)
  lost-same low (Const n) = refl

  lost_fact-same : (low : ℕ) (fact : Fact) → is_disequality_of (is_lost_by counts low) fact ≡ is_disequality_of (is_lost_among low es) fact
  lost_fact-same low (Eq left right) = refl
  lost_fact-same low (Ne left right) = ap₂ (λ b d. b || d) (lost-same low left) (lost-same low right)

-- tests that agree
pub filter-alike : {A : Type 0} (test other : A → Bool) → ((x : A) → test x ≡ other x) → (xs : List A) → filter test xs ≡ filter other xs
filter-alike test other agree [] = refl
filter-alike {A} test other agree (x ∷ xs) =
    ap₂ (λ (b : Bool) (rest : List A). cond b (x ∷ rest) rest) (agree x) (filter-alike test other agree xs)

pub all-alike : {A : Type 0} (test other : A → Bool) → ((x : A) → test x ≡ other x) → (xs : List A) → list_all test xs ≡ list_all other xs
all-alike test other agree [] = refl
all-alike test other agree (x ∷ xs) = ap₂ (λ b d. b && d) (agree x) (all-alike test other agree xs)

pub without-same : (counts : Times) (es : List Exp) → Counts counts es → (low : ℕ) (facts : List Fact)
    → without_disequalities (is_lost_by counts low) facts ≡ without_disequalities (is_lost_among low es) facts
without-same counts es are low facts =
    filter-alike (λ fact. not (is_disequality_of (is_lost_by counts low) fact))
    (λ fact. not (is_disequality_of (is_lost_among low es) fact)) (λ fact. ap not (lost_fact-same counts es are low fact)) facts

-- ---- pairs

not-ltb : (a b : ℕ) → leb b a ≡ not (ltb a b)
not-ltb a b = by_test (ltb a b) refl
  where
    by_test : (c : Bool) → ltb a b ≡ c → leb b a ≡ not (ltb a b)
    by_test true e = let low : a < b = ltb-true a b e in lt-leb b a low ∙ ap not (sym e)
    by_test false e = let high : b ≤ a = ltb-false a b e in le-leb b a high ∙ ap not (sym e)

de-morgan : (b d : Bool) → (not b && not d) ≡ not (b || d)
de-morgan true d = refl
de-morgan false d = refl

module _ (params : ℕ) (counts : Times) (missing : SymHeap) (are : Counts counts (exps_of_heap missing)) where
  equation-same : (fact : Fact) → is_lost_equation_by params counts fact ≡ is_lost_equation params missing fact
  equation-same (Eq (Var x) right) = ap₂ (λ b d. b && not d) (not-ltb x params) (counted-among counts (exps_of_heap missing) are x)
      ∙ de-morgan (ltb x params) (is_among (Var x) (exps_of_heap missing))
  equation-same (Eq (Const n) right) = refl
  equation-same (Ne left right) = refl

  pub equations-same : (facts : List Fact)
      → filter (λ fact. not (is_lost_equation_by params counts fact)) facts
      ≡ filter (λ fact. not (is_lost_equation params missing fact)) facts
  equations-same facts =
      filter-alike (λ fact. not (is_lost_equation_by params counts fact)) (λ fact. not (is_lost_equation params missing fact))
      (λ fact. ap not (equation-same fact)) facts

  pub existential-same : (first : ℕ) (e : Exp) → made_existential_by params first counts e ≡ made_existential params first missing e
  existential-same first (Var x) =
      ap (λ (b : Bool). if is_further params x && not b then Var (first + x) else Var x) (counted-among counts (exps_of_heap missing) are x)
  existential-same first (Const n) = refl
