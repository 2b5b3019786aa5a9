-- The numbers of variables make the facts of a normal heap true.
use Rattle.std.specs.Prelude.{◌≡◌, ℕ, suc, ◌+◌, ◌≤◌, ℤ, pos, ◌<ℤ◌, Bool, true, false, not, ◌&&◌, ◌==◌, leb, ltb, List, [], ◌∷◌, All}
use Rattle.std.proofs.Common.{refl, sym, ◌∙◌, arith}
use Rattle.std.specs.List.{list_all}
use Rattle.std.specs.Ordering.{int_eq}
use Rattle.std.proofs.lemmas.Bool.{eq-eqb, eqb-true, leb-true, or_parts}
use Rattle.std.proofs.lemmas.Bool.Decides.{Decides-int_eq}
use Rattle.std.proofs.lemmas.Int.{ints}
use Rattle.std.proofs.lemmas.List.Elements.{All-head, All-tail}
use Rattle.shape_data.specs.declared.symbolic.Exp.{Exp}
use Rattle.shape_data.specs.declared.symbolic.Exp.TheVariants.{Var, Const}
use Rattle.shape_data.specs.declared.symbolic.Fact.{Fact}
use Rattle.shape_data.specs.declared.symbolic.Fact.TheVariants.{Eq, Ne}
use Rattle.shape_data.specs.Meaning.{value, AreTrueFacts}
use Rattle.sym_parts.specs.Laws.Each.{EachInFact}
use Rattle.sym_parts.specs.Laws.Expressions.{same_exp}
use Rattle.sym_pure.specs.Contradictions.{has_same_sides}
use Rattle.sym_pure.specs.IsNormal.{are_in_order, is_below, is_disequality, is_read, is_read_fact, is_solved_in}
use Rattle.sym_samples.specs.Laws.{IsLow}
use Rattle.sym_samples.specs.Samples.{number_of, plain}

pub both_true : (a b : Bool) → (a && b) ≡ true → (a ≡ true) × (b ≡ true)
both_true true b e = (refl, e)
both_true false b e = let no : false ≡ true = e in cc

pub not_true : (a : Bool) → not a ≡ true → a ≡ false
not_true true e = let no : false ≡ true = e in cc
not_true false e = refl

-- ---- different expressions have different plain numbers

pub plain-same : (x y : ℕ) → plain x ≡ plain y → x ≡ y
plain-same x y e = let same : 4294967296 + x ≡ 4294967296 + y = cc in omega arith

above : (x : ℕ) (n : ℤ) → n <ℤ pos 4294967296 → plain x ≡ n → ⊥
above x n low e = let under : pos (4294967296 + x) <ℤ pos 4294967296 = rw (sym e) at low in absurd (grind (arith, ints))

apart : (e f : Exp) → IsLow e → IsLow f → same_exp e f ≡ false → value plain e ≡ value plain f → ⊥
apart (Var x) (Var y) one other differ same =
    let here : (x == y) ≡ true = eq-eqb x y (plain-same x y same) in
    let no : true ≡ false = sym here ∙ differ in cc
apart (Var x) (Const n) one other differ same = above x n other same
apart (Const m) (Var y) one other differ same = above y m one (sym same)
apart (Const m) (Const n) one other differ same =
    let here : int_eq m n ≡ true = (Decides-int_eq m n).1 same in
    let no : true ≡ false = sym here ∙ differ in cc

-- ---- what no equation solves has its plain number

eqb-sym : (x y : ℕ) → (x == y) ≡ false → (y == x) ≡ false
eqb-sym x y e = by_test (y == x) refl
  where
    by_test : (b : Bool) → (y == x) ≡ b → (y == x) ≡ false
    by_test true h = let here : (x == y) ≡ true = eq-eqb x y (sym (eqb-true y x h)) in let no : true ≡ false = sym here ∙ e in cc
    by_test false h = h

pub unsolved : (facts : List Fact) (x : ℕ) → is_solved_in facts x ≡ false → number_of facts x ≡ plain x
unsolved [] x e = refl
unsolved (Eq (Var y) right ∷ facts) x e =
    let parts : ((x == y) ≡ false) × (is_solved_in facts x ≡ false) = or_parts (x == y) (is_solved_in facts x) e in
    let other : (y == x) ≡ false = eqb-sym x y parts.0 in
    rw other (unsolved facts x parts.1)
unsolved (Eq (Const n) right ∷ facts) x e = unsolved facts x e
unsolved (Ne left right ∷ facts) x e = unsolved facts x e

pub read_value : (facts : List Fact) (e : Exp) → is_read facts e ≡ true → value (number_of facts) e ≡ value plain e
read_value facts (Var x) h = unsolved facts x (not_true (is_solved_in facts x) h)
read_value facts (Const n) h = refl

-- ---- the facts

module _ (whole : List Fact) where
  true_disequality : (left right : Exp) → IsLow left → IsLow right → is_read whole left ≡ true → is_read whole right ≡ true →
      same_exp left right ≡ false → value (number_of whole) left ≡ value (number_of whole) right → ⊥
  true_disequality left right one other here there differ same =
      apart left right one other differ (sym (read_value whole left here) ∙ same ∙ read_value whole right there)

  true_disequalities : (facts : List Fact) → list_all is_disequality facts ≡ true → list_all (is_read_fact whole) facts ≡ true →
      has_same_sides facts ≡ false → All (EachInFact IsLow) facts → AreTrueFacts (number_of whole) facts
  true_disequalities [] order reads differ low = tt
  true_disequalities (Eq left right ∷ facts) order reads differ low = let no : false ≡ true = order in cc
  true_disequalities (Ne left right ∷ facts) order reads differ low =
      let read_parts : ((is_read whole left && is_read whole right) ≡ true) × (list_all (is_read_fact whole) facts ≡ true) =
      both_true (is_read whole left && is_read whole right) (list_all (is_read_fact whole) facts) reads in
      let sides : (is_read whole left ≡ true) × (is_read whole right ≡ true) =
      both_true (is_read whole left) (is_read whole right) read_parts.0 in
      let differs : (same_exp left right ≡ false) × (has_same_sides facts ≡ false) =
      or_parts (same_exp left right) (has_same_sides facts) differ in
      let here : EachInFact IsLow (Ne left right) = All-head (EachInFact IsLow) (Ne left right) facts low in (
        true_disequality left right here.0 here.1 sides.0 sides.1 differs.0,
        true_disequalities facts order read_parts.1 differs.1 (All-tail (EachInFact IsLow) (Ne left right) facts low),
      )

  pub true_facts : (facts : List Fact) (first : ℕ) → are_in_order first facts ≡ true → list_all (is_read_fact whole) facts ≡ true →
      has_same_sides facts ≡ false → All (EachInFact IsLow) facts →
      ((y : ℕ) → first ≤ y → number_of whole y ≡ number_of facts y) → AreTrueFacts (number_of whole) facts
  true_facts [] first order reads differ low same = tt
  true_facts (Eq (Const n) right ∷ facts) first order reads differ low same = let no : false ≡ true = order in cc
  true_facts (Ne left right ∷ facts) first order reads differ low same = true_disequalities (Ne left right ∷ facts) order reads differ low
  true_facts (Eq (Var x) right ∷ facts) first order reads differ low same =
      let parts : ((leb first x && ltb x 65536 && is_below x right) ≡ true) × (are_in_order (suc x) facts ≡ true) =
      both_true (leb first x && ltb x 65536 && is_below x right) (are_in_order (suc x) facts) order in
      let tests : ((leb first x && ltb x 65536) ≡ true) × (is_below x right ≡ true) =
      both_true (leb first x && ltb x 65536) (is_below x right) parts.0 in
      let from : first ≤ x = leb-true first x (both_true (leb first x) (ltb x 65536) tests.0).0 in
      let read_parts : (is_read whole right ≡ true) × (list_all (is_read_fact whole) facts ≡ true) =
      both_true (is_read whole right) (list_all (is_read_fact whole) facts) reads in
      let itself : (x == x) ≡ true = eq-eqb x x refl in
      let solved : number_of (Eq (Var x) right ∷ facts) x ≡ value plain right = rw itself refl in (
        same x from ∙ solved ∙ sym (read_value whole right read_parts.0),
        true_facts facts (suc x) parts.1 read_parts.1 differ (All-tail (EachInFact IsLow) (Eq (Var x) right) facts low)
            (λ y above_x. same y (later y from above_x) ∙ passed y above_x),
      )
    where
      later : (y : ℕ) → first ≤ x → suc x ≤ y → first ≤ y
      later y from above_x = omega arith

      passed : (y : ℕ) → suc x ≤ y → number_of (Eq (Var x) right ∷ facts) y ≡ number_of facts y
      passed y above_x = by_test (x == y) refl
        where
          by_test : (b : Bool) → (x == y) ≡ b → number_of (Eq (Var x) right ∷ facts) y ≡ number_of facts y
          by_test true h = let is : x ≡ y = eqb-true x y h in absurd (omega arith)
          by_test false h = rw h refl
