-- The facts of a form are in order.
use Rattle.std.specs.Prelude.{◌≡◌, ℕ, ◌<◌, ℤ, pos, negsuc, int_lt, Bool, true, false, not, ◌&&◌, ltb, List, [], ◌∷◌}
use Rattle.std.specs.List.{list_all}
use Rattle.std.proofs.Common.{refl, sym, subst, arith, inl, inr}
use Rattle.std.proofs.lemmas.Bool.{lt-ltb, ltb-true, and_parts, and_from, or_cases, or_left, or_right, not_from_false, not-true}
use Rattle.std.proofs.lemmas.Bool.{false_from_ne_true}
use Rattle.shape_data.specs.declared.symbolic.Exp.{Exp}
use Rattle.shape_data.specs.declared.symbolic.Exp.TheVariants.{Var, Const}
use Rattle.shape_data.specs.declared.symbolic.Fact.{Fact}
use Rattle.shape_data.specs.declared.symbolic.Fact.TheVariants.{Eq, Ne}
use Rattle.sym_parts.specs.Laws.Expressions.{same_exp}
use Rattle.sym_parts.proofs.LawsLemmas.ExpressionLemmas.{same_exp-equal}
use Rattle.sym_canon.specs.FactOrder.{is_before, with_sides_in_order, are_sides_before, is_fact_before, with_fact, sorted_among}
use Rattle.sym_canon.specs.Laws.{are_in_order, FactsAreInOrder}

ltb-trans : (a b c : ℕ) → ltb a b ≡ true → ltb b c ≡ true → ltb a c ≡ true
ltb-trans a b c h k =
    let first : a < b = ltb-true a b h in
    let second : b < c = ltb-true b c k in
    lt-ltb a c (omega arith)

int-trans : (a b c : ℤ) → int_lt a b ≡ true → int_lt b c ≡ true → int_lt a c ≡ true
int-trans (pos a) (pos b) (pos c) h k = ltb-trans a b c h k
int-trans (pos a) (pos b) (negsuc c) h k = cc
int-trans (pos a) (negsuc b) c h k = cc
int-trans (negsuc a) (pos b) (pos c) h k = refl
int-trans (negsuc a) (pos b) (negsuc c) h k = cc
int-trans (negsuc a) (negsuc b) (pos c) h k = refl
int-trans (negsuc a) (negsuc b) (negsuc c) h k = ltb-trans c b a k h

exp-trans : (a b c : Exp) → is_before a b ≡ true → is_before b c ≡ true → is_before a c ≡ true
exp-trans (Var a) (Var b) (Var c) h k = ltb-trans a b c h k
exp-trans (Var a) (Var b) (Const c) h k = refl
exp-trans (Var a) (Const b) (Var c) h k = cc
exp-trans (Var a) (Const b) (Const c) h k = refl
exp-trans (Const a) (Var b) c h k = cc
exp-trans (Const a) (Const b) (Var c) h k = cc
exp-trans (Const a) (Const b) (Const c) h k = int-trans a b c h k

sides-trans : (a b c d e f : Exp) → are_sides_before a b c d ≡ true → are_sides_before c d e f ≡ true → are_sides_before a b e f ≡ true
sides-trans a b c d e f h k = elim (or_cases (is_before a c) (same_exp a c && is_before b d) h) [
  | inl low ↦ elim (or_cases (is_before c e) (same_exp c e && is_before d f) k) [
    | inl lower ↦ or_left (is_before a e) (same_exp a e && is_before b f) (exp-trans a c e low lower)
    | inr same ↦
        let parts = and_parts (same_exp c e) (is_before d f) same in
        or_left (is_before a e) (same_exp a e && is_before b f) (subst (λ x. is_before a x ≡ true) (same_exp-equal c e parts.0) low)
  ]
  | inr same ↦
      let first = and_parts (same_exp a c) (is_before b d) same in
      elim (or_cases (is_before c e) (same_exp c e && is_before d f) k) [
        | inl lower ↦ or_left (is_before a e) (same_exp a e && is_before b f)
            (subst (λ x. is_before x e ≡ true) (sym (same_exp-equal a c first.0)) lower)
        | inr again ↦
            let second = and_parts (same_exp c e) (is_before d f) again in
            or_right (is_before a e) (same_exp a e && is_before b f)
            (and_from (same_exp a e) (is_before b f) (subst (λ x. same_exp a x ≡ true) (same_exp-equal c e second.0) first.0)
            (exp-trans b d f first.1 second.1))
      ]
]

fact-trans : (a b c : Fact) → is_fact_before a b ≡ true → is_fact_before b c ≡ true → is_fact_before a c ≡ true
fact-trans (Eq a b) (Eq c d) (Eq e f) h k = sides-trans a b c d e f h k
fact-trans (Eq a b) (Eq c d) (Ne e f) h k = refl
fact-trans (Eq a b) (Ne c d) (Eq e f) h k = cc
fact-trans (Eq a b) (Ne c d) (Ne e f) h k = refl
fact-trans (Ne a b) (Eq c d) e h k = cc
fact-trans (Ne a b) (Ne c d) (Eq e f) h k = cc
fact-trans (Ne a b) (Ne c d) (Ne e f) h k = sides-trans a b c d e f h k

exp-irreflexive : (e : Exp) → is_before e e ≡ true → ⊥
exp-irreflexive (Var x) h = let low : x < x = ltb-true x x h in omega arith
exp-irreflexive (Const (pos n)) h = let low : n < n = ltb-true n n h in omega arith
exp-irreflexive (Const (negsuc n)) h = let low : n < n = ltb-true n n h in omega arith

sides-irreflexive : (a b : Exp) → are_sides_before a b a b ≡ true → ⊥
sides-irreflexive a b h = elim (or_cases (is_before a a) (same_exp a a && is_before b b) h) [
  | inl low ↦ exp-irreflexive a low
  | inr same ↦ exp-irreflexive b (and_parts (same_exp a a) (is_before b b) same).1
]

fact-irreflexive : (a : Fact) → is_fact_before a a ≡ true → ⊥
fact-irreflexive (Eq a b) h = sides-irreflexive a b h
fact-irreflexive (Ne a b) h = sides-irreflexive a b h

-- what comes before a fact that comes before another does not stand behind that one
not-later : (fact first later : Fact) → is_fact_before fact first ≡ true → not (is_fact_before later first) ≡ true
    → not (is_fact_before later fact) ≡ true
not-later fact first later h k =
    not_from_false (is_fact_before later fact) (false_from_ne_true (is_fact_before later fact) (λ wrong.
    let told : is_fact_before later first ≡ false = not-true (is_fact_before later first) k in
    let both : is_fact_before later first ≡ true = fact-trans later fact first wrong h in
    cc))

all-not-later : (fact first : Fact) (facts : List Fact) → is_fact_before fact first ≡ true
    → list_all (λ later. not (is_fact_before later first)) facts ≡ true → list_all (λ later. not (is_fact_before later fact)) facts ≡ true
all-not-later fact first [] h k = refl
all-not-later fact first (later ∷ facts) h k =
    let parts = and_parts (not (is_fact_before later first)) (list_all (λ x. not (is_fact_before x first)) facts) k in
    and_from (not (is_fact_before later fact)) (list_all (λ x. not (is_fact_before x fact)) facts) (not-later fact first later h parts.0)
    (all-not-later fact first facts h parts.1)

-- a test that the fact and all others pass is passed by all with the fact among them
with-all : (test : Fact → Bool) (fact : Fact) (facts : List Fact) → test fact ≡ true → list_all test facts ≡ true
    → list_all test (with_fact fact facts) ≡ true
with-all test fact [] h k = and_from (test fact) true h refl
with-all test fact (first ∷ facts) h k =
    let parts = and_parts (test first) (list_all test facts) k in
    by_test (is_fact_before fact first) refl
    (and_from (test first) (list_all test (with_fact fact facts)) parts.0 (with-all test fact facts h parts.1))
  where
    by_test : (b : Bool) → is_fact_before fact first ≡ b → (test first && list_all test (with_fact fact facts)) ≡ true
        → list_all test (with_fact fact (first ∷ facts)) ≡ true
    by_test true e later = rw e (and_from (test fact) (test first && list_all test facts) h k)
    by_test false e later = rw e later

with-order : (fact : Fact) (facts : List Fact) → are_in_order facts ≡ true → are_in_order (with_fact fact facts) ≡ true
with-order fact [] h = refl
with-order fact (first ∷ facts) h =
    let parts = and_parts (list_all (λ later. not (is_fact_before later first)) facts) (are_in_order facts) h in
    by_test (is_fact_before fact first) refl parts.0 (with-order fact facts parts.1)
  where
    by_test : (b : Bool) → is_fact_before fact first ≡ b → list_all (λ later. not (is_fact_before later first)) facts ≡ true
        → are_in_order (with_fact fact facts) ≡ true → are_in_order (with_fact fact (first ∷ facts)) ≡ true
    by_test true e behind rest =
        let back : not (is_fact_before first fact)
        ≡ true =
        not_from_false (is_fact_before first fact)
        (false_from_ne_true (is_fact_before first fact) (λ wrong. fact-irreflexive fact (fact-trans fact first fact e wrong))) in
        rw e (and_from (not (is_fact_before first fact) && list_all (λ later. not (is_fact_before later fact)) facts)
        (are_in_order (first ∷ facts))
        (and_from (not (is_fact_before first fact)) (list_all (λ later. not (is_fact_before later fact)) facts) back
        (all-not-later fact first facts e behind)) h)
    by_test false e behind rest =
        rw e (and_from (list_all (λ later. not (is_fact_before later first)) (with_fact fact facts)) (are_in_order (with_fact fact facts))
        (with-all (λ later. not (is_fact_before later first)) fact facts (not_from_false (is_fact_before fact first) e) behind) rest)

among-order : (facts sorted : List Fact) → are_in_order sorted ≡ true → are_in_order (sorted_among facts sorted) ≡ true
among-order [] sorted h = h
among-order (fact ∷ facts) sorted h =
    among-order facts (with_fact (with_sides_in_order fact) sorted) (with-order (with_sides_in_order fact) sorted h)

pub facts_are_in_order : FactsAreInOrder
facts_are_in_order facts = among-order facts [] refl
