-- A normal heap with its facts sorted is normal: equations are sorted already, and what is asked of disequalities depends on
-- neither their order nor their direction.
use Rattle.std.specs.Prelude.{◌≡◌, ℕ, suc, ◌+◌, ◌<◌, ◌≤◌, pos, Bool, true, false, not, ◌==◌, ◌&&◌, ◌||◌, if◌then◌else◌, ltb, leb, List, []}
use Rattle.std.specs.Prelude.{◌∷◌, ◌++◌}
use Rattle.std.specs.List.{cons_option, list_all, list_any}
use Rattle.std.specs.declared.option.Option.TheVariants.{None, Some}
use Rattle.std.proofs.Common.{refl, sym, ap, ap₂, ◌∙◌, arith, inl, inr}
use Rattle.std.proofs.lemmas.Bool.{and_from, and_parts, le-leb, leb-true, lt-ltb, ltb-true, le-ltb, or_parts, or_cases, ne_eqb}
use Rattle.shape_data.specs.declared.symbolic.Atom.{Atom}
use Rattle.shape_data.specs.declared.symbolic.Atom.TheVariants.{Points, Seg, Junk}
use Rattle.shape_data.specs.declared.symbolic.Exp.{Exp}
use Rattle.shape_data.specs.declared.symbolic.Exp.TheVariants.{Var, Const}
use Rattle.shape_data.specs.declared.symbolic.Fact.{Fact}
use Rattle.shape_data.specs.declared.symbolic.Fact.TheVariants.{Eq, Ne}
use Rattle.shape_data.specs.declared.symbolic.SymState.{SymState}
use Rattle.sym_parts.specs.Laws.Addresses.{addresses}
use Rattle.sym_parts.specs.Laws.Expressions.{is_among, has_double, same_exp}
use Rattle.sym_parts.proofs.LawsLemmas.ExpressionLemmas.{same_exp-equal, same_exp-itself, same_exp-sym}
use Rattle.sym_pure.specs.Contradictions.{has_clash, has_same_sides}
use Rattle.sym_pure.specs.Emptying.{is_empty, is_plain}
use Rattle.sym_pure.specs.IsNormal.{are_in_order, are_normal_atoms, are_normal_facts, has_redundant, has_two_junk, is_below, is_disequality}
use Rattle.sym_pure.specs.IsNormal.{is_normal, is_normal_heap, is_read, is_read_atom, is_read_fact, is_solved_in}
use Rattle.sym_pure.specs.Redundancy.{are_constants, is_redundant}
use Rattle.sym_pure.specs.Sources.{are_unequal_constants, is_written, source_of, sources}
use Rattle.sym_canon.specs.Canonical.{state_with_facts_sorted, with_facts_sorted}
use Rattle.sym_canon.specs.FactOrder.{is_before, is_fact_before, sorted_among, sorted_facts, with_fact, with_sides_in_order}
use Rattle.sym_forms.proofs.CountLaws.{all-alike, all-any, any-count, count, count-alike, count-none, none-count}

-- ---- a test that does not see the direction of a disequality is passed as often

-- the test does not see the direction
abbrev pub IsBlind : (Fact → Bool) → Type 0
IsBlind test = (fact : Fact) → test (with_sides_in_order fact) ≡ test fact

-- a test that is the same both ways round
pub blind : (test : Fact → Bool) → ((left right : Exp) → test (Ne right left) ≡ test (Ne left right)) → IsBlind test
blind test turned (Eq left right) = refl
blind test turned (Ne left right) = by_test (is_before right left) refl
  where
    by_test : (b : Bool) → is_before right left ≡ b → test (with_sides_in_order (Ne left right)) ≡ test (Ne left right)
    by_test true e = rw e (turned left right)
    by_test false e = rw e refl

module _ (test : Fact → Bool) where
  with-count : (fact : Fact) (facts : List Fact) → count test (with_fact fact facts) ≡ count test (fact ∷ facts)
  with-count fact [] = refl
  with-count fact (first ∷ facts) = by_test (is_fact_before fact first) refl (with-count fact facts)
    where
      swapped : (b d : Bool) (n : ℕ)
          → (if b then suc (if d then suc n else n) else (if d then suc n else n))
          ≡ (if d then suc (if b then suc n else n) else (if b then suc n else n))
      swapped true true n = refl
      swapped true false n = refl
      swapped false true n = refl
      swapped false false n = refl

      by_test : (b : Bool) → is_fact_before fact first ≡ b → count test (with_fact fact facts) ≡ count test (fact ∷ facts)
          → count test (with_fact fact (first ∷ facts)) ≡ count test (fact ∷ first ∷ facts)
      by_test true e k = rw e refl
      by_test false e k = rw e (ap (λ n. if test first then suc n else n) k ∙ swapped (test first) (test fact) (count test facts))

  module _ (is_blind : IsBlind test) where
    among-count : (facts sorted : List Fact) → count test (sorted_among facts sorted) ≡ count test facts + count test sorted
    among-count [] sorted = omega arith
    among-count (fact ∷ facts) sorted =
        among-count facts (with_fact (with_sides_in_order fact) sorted)
        ∙ (ap (λ n. count test facts + n)
        (with-count (with_sides_in_order fact) sorted
        ∙ ap (λ (b : Bool). if b then suc (count test sorted) else count test sorted) (is_blind fact))
        ∙ by_test (test fact))
      where
        by_test : (b : Bool)
            → count test facts + (if b then suc (count test sorted) else count test sorted)
            ≡ (if b then suc (count test facts) else count test facts) + count test sorted
        by_test true = omega arith
        by_test false = omega arith

    pub sorted-count : (facts : List Fact) → count test (sorted_facts facts) ≡ count test facts
    sorted-count facts = let told : count test (sorted_facts facts)
        ≡ count test facts + count test [] = among-count facts [] in omega (arith, told)

    pub sorted-any : (facts : List Fact) → list_any test (sorted_facts facts) ≡ list_any test facts
    sorted-any facts = any-count test (sorted_facts facts) ∙ (ap (leb 1) (sorted-count facts) ∙ sym (any-count test facts))

pub sorted-all : (test : Fact → Bool) → IsBlind test → (facts : List Fact) → list_all test (sorted_facts facts) ≡ list_all test facts
sorted-all test is_blind facts =
    all-any test (sorted_facts facts)
    ∙ (ap not (sorted-any (λ fact. not (test fact)) (λ fact. ap not (is_blind fact)) facts) ∙ sym (all-any test facts))

-- ---- what is written

-- the fact is the disequality of the two, either way round
abbrev pub is_ne_of : Exp → Exp → Fact → Bool
is_ne_of e f (Eq left right) = false
is_ne_of e f (Ne left right) = (same_exp left e && same_exp right f) || (same_exp left f && same_exp right e)

or-assoc : (a b c : Bool) → (a || (b || c)) ≡ ((a || b) || c)
or-assoc true b c = refl
or-assoc false b c = refl

or-swap : (a b c d : Bool) → ((a && b) || (c && d)) ≡ ((d && c) || (b && a))
or-swap true true true true = refl
or-swap true true true false = refl
or-swap true true false true = refl
or-swap true true false false = refl
or-swap true false true true = refl
or-swap true false true false = refl
or-swap true false false true = refl
or-swap true false false false = refl
or-swap false true true true = refl
or-swap false true true false = refl
or-swap false true false true = refl
or-swap false true false false = refl
or-swap false false true true = refl
or-swap false false true false = refl
or-swap false false false true = refl
or-swap false false false false = refl

and-swap : (a b : Bool) → (a && b) ≡ (b && a)
and-swap true true = refl
and-swap true false = refl
and-swap false true = refl
and-swap false false = refl

written-any : (facts : List Fact) (e f : Exp) → is_written facts e f ≡ list_any (is_ne_of e f) facts
written-any [] e f = refl
written-any (Eq left right ∷ facts) e f = written-any facts e f
written-any (Ne left right ∷ facts) e f =
    or-assoc (same_exp left e && same_exp right f) (same_exp left f && same_exp right e) (is_written facts e f)
    ∙ ap (λ b. ((same_exp left e && same_exp right f) || (same_exp left f && same_exp right e)) || b) (written-any facts e f)

ne-blind : (e f : Exp) → IsBlind (is_ne_of e f)
ne-blind e f = blind (is_ne_of e f) (λ left right. or-swap (same_exp right e) (same_exp left f) (same_exp right f) (same_exp left e))

pub sorted-written : (facts : List Fact) (e f : Exp) → is_written (sorted_facts facts) e f ≡ is_written facts e f
sorted-written facts e f = written-any (sorted_facts facts) e f
    ∙ (sorted-any (is_ne_of e f) (ne-blind e f) facts ∙ sym (written-any facts e f))

-- ---- same sides

-- the fact is a disequality of an expression and itself
abbrev is_same_sided : Fact → Bool
is_same_sided (Eq left right) = false
is_same_sided (Ne left right) = same_exp left right

same_sides-any : (facts : List Fact) → has_same_sides facts ≡ list_any is_same_sided facts
same_sides-any [] = refl
same_sides-any (Eq left right ∷ facts) = same_sides-any facts
same_sides-any (Ne left right ∷ facts) = ap (λ b. same_exp left right || b) (same_sides-any facts)

sorted-same_sides : (facts : List Fact) → has_same_sides (sorted_facts facts) ≡ has_same_sides facts
sorted-same_sides facts =
    same_sides-any (sorted_facts facts)
    ∙ (sorted-any is_same_sided (blind is_same_sided (λ left right. same_exp-sym right left)) facts ∙ sym (same_sides-any facts))

-- ---- sources

module _ (facts : List Fact) where
  source-same : (atom : Atom) → source_of (sorted_facts facts) atom ≡ source_of facts atom
  source-same (Points at kind fields) = refl
  source-same (Seg kind link from to) =
      ap (λ (b : Bool). if are_unequal_constants from to || b then Some from else None) (sorted-written facts from to)
  source-same Junk = refl

  sources-same : (atoms : List Atom) → sources (sorted_facts facts) atoms ≡ sources facts atoms
  sources-same [] = refl
  sources-same (atom ∷ atoms) = ap₂ (λ o es. cons_option o es) (source-same atom) (sources-same atoms)

  clash-same : (atoms : List Atom) → has_clash (sorted_facts facts) atoms ≡ has_clash facts atoms
  clash-same atoms = ap₂ (λ b es. b || (is_among (Const (pos 0)) es || has_double es)) (sorted-same_sides facts) (sources-same atoms)

-- ---- what is read

-- the fact is an equation of the variable
abbrev is_equation_of : ℕ → Fact → Bool
is_equation_of x (Eq (Var y) right) = x == y
is_equation_of x (Eq (Const n) right) = false
is_equation_of x (Ne left right) = false

solved-any : (facts : List Fact) (x : ℕ) → is_solved_in facts x ≡ list_any (is_equation_of x) facts
solved-any [] x = refl
solved-any (Eq (Var y) right ∷ facts) x = ap (λ b. (x == y) || b) (solved-any facts x)
solved-any (Eq (Const n) right ∷ facts) x = solved-any facts x
solved-any (Ne left right ∷ facts) x = solved-any facts x

module _ (facts : List Fact) where
  sorted-solved : (x : ℕ) → is_solved_in (sorted_facts facts) x ≡ is_solved_in facts x
  sorted-solved x = solved-any (sorted_facts facts) x
      ∙ (sorted-any (is_equation_of x) (blind (is_equation_of x) (λ left right. refl)) facts ∙ sym (solved-any facts x))

  read-same : (e : Exp) → is_read (sorted_facts facts) e ≡ is_read facts e
  read-same (Var x) = ap not (sorted-solved x)
  read-same (Const n) = refl

  read_fact-same : (fact : Fact) → is_read_fact (sorted_facts facts) fact ≡ is_read_fact facts fact
  read_fact-same (Eq left right) = read-same right
  read_fact-same (Ne left right) = ap₂ (λ b d. b && d) (read-same left) (read-same right)

  reads-same : (es : List Exp) → list_all (is_read (sorted_facts facts)) es ≡ list_all (is_read facts) es
  reads-same es = all-alike (is_read (sorted_facts facts)) (is_read facts) read-same es

  read_atom-same : (atom : Atom) → is_read_atom (sorted_facts facts) atom ≡ is_read_atom facts atom
  read_atom-same (Points at kind fields) = ap₂ (λ b d. b && d) (read-same at) (reads-same fields)
  read_atom-same (Seg kind link from to) = ap₂ (λ b d. b && d) (read-same from) (read-same to)
  read_atom-same Junk = refl

  read_facts-same : list_all (is_read_fact (sorted_facts facts)) (sorted_facts facts) ≡ list_all (is_read_fact facts) facts
  read_facts-same =
      all-alike (is_read_fact (sorted_facts facts)) (is_read_fact facts) read_fact-same (sorted_facts facts)
      ∙ sorted-all (is_read_fact facts)
      (blind (is_read_fact facts) (λ left right. and-swap (is_read facts right) (is_read facts left))) facts

-- ---- what is redundant

-- the disequality says nothing beside cells at these addresses
abbrev says_nothing : List Exp → Fact → Bool
says_nothing cells (Eq left right) = false
says_nothing cells (Ne left right) = are_constants left right || (is_plain cells left && is_plain cells right)

constants-swap : (e f : Exp) → are_constants f e ≡ are_constants e f
constants-swap (Var x) (Var y) = refl
constants-swap (Var x) (Const n) = refl
constants-swap (Const m) (Var y) = refl
constants-swap (Const m) (Const n) = refl

nothing-blind : (cells : List Exp) → IsBlind (says_nothing cells)
nothing-blind cells =
    blind (says_nothing cells)
    (λ left right. ap₂ (λ b d. b || d) (constants-swap left right) (and-swap (is_plain cells right) (is_plain cells left)))

-- no disequality stands twice, either way round
abbrev AreOnce : List Fact → Type 0
AreOnce facts = (e f : Exp) → count (is_ne_of e f) facts ≤ 1

-- a disequality is that of its own sides
ne-itself : (left right : Exp) → is_ne_of left right (Ne left right) ≡ true
ne-itself left right = rw (same_exp-itself left, same_exp-itself right) refl

-- and whoever it is that of, has the same disequalities
ne-same : (e f left right : Exp) (fact : Fact) → is_ne_of e f (Ne left right) ≡ true → is_ne_of e f fact ≡ is_ne_of left right fact
ne-same e f left right (Eq l r) h = refl
ne-same e f left right (Ne l r) h = elim (or_cases (same_exp left e && same_exp right f) (same_exp left f && same_exp right e) h) [
  | inl straight ↦
      let parts = and_parts (same_exp left e) (same_exp right f) straight in
      let one : left ≡ e = same_exp-equal left e parts.0 in
      let two : right ≡ f = same_exp-equal right f parts.1 in
      ap₂ (λ a b. is_ne_of a b (Ne l r)) (sym one) (sym two)
  | inr turned ↦
      let parts = and_parts (same_exp left f) (same_exp right e) turned in
      let one : left ≡ f = same_exp-equal left f parts.0 in
      let two : right ≡ e = same_exp-equal right e parts.1 in
      ap₂ (λ a b. is_ne_of a b (Ne l r)) (sym two) (sym one)
      ∙ or-comm (same_exp l right && same_exp r left) (same_exp l left && same_exp r right)
]
  where
    or-comm : (a b : Bool) → (a || b) ≡ (b || a)
    or-comm true true = refl
    or-comm true false = refl
    or-comm false true = refl
    or-comm false false = refl

module _ (cells : List Exp) where
  redundant-from : (facts : List Fact) → has_redundant cells facts ≡ false → (list_any (says_nothing cells) facts ≡ false) × AreOnce facts
  redundant-from [] h = (refl, λ e f. omega arith)
  redundant-from (Eq left right ∷ facts) h = let rest = redundant-from facts h in (rest.0, rest.1)
  redundant-from (Ne left right ∷ facts) h =
      let parts = or_parts (is_redundant cells facts left right) (has_redundant cells facts) h in
      let inner =
      or_parts (are_constants left right) ((is_plain cells left && is_plain cells right) || is_written facts left right) parts.0 in
      let plain = or_parts (is_plain cells left && is_plain cells right) (is_written facts left right) inner.1 in
      let rest = redundant-from facts parts.1 in
      let none : count (is_ne_of left right) facts ≡ 0 =
      none-count (is_ne_of left right) facts (sym (written-any facts left right) ∙ plain.1) in
      (rw (inner.0, plain.0) rest.0, λ e f. once e f none (rest.1 e f) (is_ne_of e f (Ne left right)) refl)
    where
      once : (e f : Exp) → count (is_ne_of left right) facts ≡ 0 → count (is_ne_of e f) facts ≤ 1 → (b : Bool)
          → is_ne_of e f (Ne left right) ≡ b → count (is_ne_of e f) (Ne left right ∷ facts) ≤ 1
      once e f none few true g =
          let zero : count (is_ne_of e f) facts ≡ 0 =
          count-alike (is_ne_of e f) (is_ne_of left right) (λ fact. ne-same e f left right fact g) facts ∙ none in
          rw g (omega (arith, zero))
      once e f none few false g = rw g few

  redundant-to : (facts : List Fact) → list_any (says_nothing cells) facts ≡ false → AreOnce facts → has_redundant cells facts ≡ false
  redundant-to [] h once = refl
  redundant-to (Eq left right ∷ facts) h once = redundant-to facts h once
  redundant-to (Ne left right ∷ facts) h once =
      let parts =
      or_parts (are_constants left right || (is_plain cells left && is_plain cells right)) (list_any (says_nothing cells) facts) h in
      let inner = or_parts (are_constants left right) (is_plain cells left && is_plain cells right) parts.0 in
      let first : suc (count (is_ne_of left right) facts) ≤ 1 = rw (ne-itself left right) at (once left right) in
      let none : count (is_ne_of left right) facts ≡ 0 = omega (arith, first) in
      let written : is_written facts left right ≡ false = written-any facts left right ∙ count-none (is_ne_of left right) facts none in
      let rest : has_redundant cells facts ≡ false =
      redundant-to facts parts.1 (λ e f. fewer e f (once e f) (is_ne_of e f (Ne left right)) refl) in
      rw (inner.0, inner.1, written) rest
    where
      fewer : (e f : Exp) → count (is_ne_of e f) (Ne left right ∷ facts) ≤ 1 → (b : Bool) → is_ne_of e f (Ne left right) ≡ b
          → count (is_ne_of e f) facts ≤ 1
      fewer e f k true g = let all : suc (count (is_ne_of e f) facts) ≤ 1 = rw g at k in omega (arith, all)
      fewer e f k false g = rw g at k

  sorted-redundant : (facts : List Fact) → has_redundant cells facts ≡ false → has_redundant cells (sorted_facts facts) ≡ false
  sorted-redundant facts h =
      let parts = redundant-from facts h in
      redundant-to (sorted_facts facts) (sorted-any (says_nothing cells) (nothing-blind cells) facts ∙ parts.0)
      (λ e f. let few : count (is_ne_of e f) facts ≤ 1 = parts.1 e f in rw (sorted-count (is_ne_of e f) (ne-blind e f) facts) few)

-- ---- the order

-- equations alone, all of variables below a limit
abbrev AreBelow : ℕ → List Fact → Type 0
AreBelow limit [] = Unit {0}
AreBelow limit (Eq (Var x) right ∷ facts) = (x < limit) × AreBelow limit facts
AreBelow limit (Eq (Const n) right ∷ facts) = ⊥
AreBelow limit (Ne left right ∷ facts) = ⊥

-- an equation of a greater variable goes to the end
below-last : (x : ℕ) (right : Exp) (sorted : List Fact) → AreBelow x sorted
    → with_fact (Eq (Var x) right) sorted ≡ sorted ++ Eq (Var x) right ∷ []
below-last x right [] are = refl
below-last x right (Eq (Var y) other ∷ facts) are =
    let low : y < x = are.0 in
    let before : ltb x y ≡ false = le-ltb x y (omega (arith, low)) in
    let apart : (x == y) ≡ false = ne_eqb x y (λ same. omega (arith, low, same)) in
    rw (before, apart) (ap (λ rest. Eq (Var y) other ∷ rest) (below-last x right facts are.1))
below-last x right (Eq (Const n) other ∷ facts) are = absurd are
below-last x right (Ne l r ∷ facts) are = absurd are

below-more : (x limit : ℕ) (right : Exp) (sorted : List Fact) → x < limit → AreBelow x sorted
    → AreBelow limit (sorted ++ Eq (Var x) right ∷ [])
below-more x limit right [] low are = (low, tt)
below-more x limit right (Eq (Var y) other ∷ facts) low are =
    let first : y < x = are.0 in (omega (arith, first, low), below-more x limit right facts low are.1)
below-more x limit right (Eq (Const n) other ∷ facts) low are = absurd are
below-more x limit right (Ne l r ∷ facts) low are = absurd are

below-wider : (low x : ℕ) (sorted : List Fact) → low ≤ x → AreBelow low sorted → AreBelow x sorted
below-wider low x [] above are = tt
below-wider low x (Eq (Var y) other ∷ facts) above are =
    let first : y < low = are.0 in (omega (arith, first, above), below-wider low x facts above are.1)
below-wider low x (Eq (Const n) other ∷ facts) above are = absurd are
below-wider low x (Ne l r ∷ facts) above are = absurd are

-- and leaves them in order
order-more : (low x : ℕ) (right : Exp) (sorted : List Fact) → low ≤ x → x < 65536 → is_below x right ≡ true → AreBelow x sorted
    → are_in_order low sorted ≡ true → are_in_order low (sorted ++ Eq (Var x) right ∷ []) ≡ true
order-more low x right [] above under below are h = rw (le-leb low x above, lt-ltb x 65536 under, below) refl
order-more low x right (Eq (Var y) other ∷ facts) above under below are h =
    let outer = and_parts (leb low y && ltb y 65536 && is_below y other) (are_in_order (suc y) facts) h in
    let first : y < x = are.0 in
    and_from (leb low y && ltb y 65536 && is_below y other) (are_in_order (suc y) (facts ++ Eq (Var x) right ∷ [])) outer.0
    (order-more (suc y) x right facts (omega (arith, first)) under below are.1 outer.1)
order-more low x right (Eq (Const n) other ∷ facts) above under below are h = cc
order-more low x right (Ne l r ∷ facts) above under below are h = absurd are

-- a disequality is put behind the equations
diseq-more : (left right : Exp) (facts : List Fact) → list_all is_disequality facts ≡ true
    → list_all is_disequality (with_fact (Ne left right) facts) ≡ true
diseq-more left right [] h = refl
diseq-more left right (Eq l r ∷ facts) h = cc
diseq-more left right (Ne l r ∷ facts) h = by_test (is_fact_before (Ne left right) (Ne l r)) refl (diseq-more left right facts h)
  where
    by_test : (b : Bool) → is_fact_before (Ne left right) (Ne l r) ≡ b → list_all is_disequality (with_fact (Ne left right) facts) ≡ true
        → list_all is_disequality (with_fact (Ne left right) (Ne l r ∷ facts)) ≡ true
    by_test true e k = rw e h
    by_test false e k = rw e k

order-diseq : (low : ℕ) (left right : Exp) (sorted : List Fact) → are_in_order low sorted ≡ true
    → are_in_order low (with_fact (Ne left right) sorted) ≡ true
order-diseq low left right [] h = refl
order-diseq low left right (Eq (Var x) other ∷ facts) h =
    let outer = and_parts (leb low x && ltb x 65536 && is_below x other) (are_in_order (suc x) facts) h in
    and_from (leb low x && ltb x 65536 && is_below x other) (are_in_order (suc x) (with_fact (Ne left right) facts)) outer.0
    (order-diseq (suc x) left right facts outer.1)
order-diseq low left right (Eq (Const n) other ∷ facts) h = cc
order-diseq low left right (Ne l r ∷ facts) h = by_test (is_fact_before (Ne left right) (Ne l r)) refl
  where
    by_test : (b : Bool) → is_fact_before (Ne left right) (Ne l r) ≡ b
        → are_in_order low (with_fact (Ne left right) (Ne l r ∷ facts)) ≡ true
    by_test true e = rw e h
    by_test false e = rw e (diseq-more left right facts h)

sides-diseq : (left right : Exp) (P : Fact → Type 0) → ((l r : Exp) → P (Ne l r)) → P (with_sides_in_order (Ne left right))
sides-diseq left right P each = by_test (is_before right left) refl
  where
    by_test : (b : Bool) → is_before right left ≡ b → P (with_sides_in_order (Ne left right))
    by_test true e = rw e (each right left)
    by_test false e = rw e (each left right)

among-diseqs : (facts sorted : List Fact) → list_all is_disequality facts ≡ true → are_in_order 0 sorted ≡ true
    → are_in_order 0 (sorted_among facts sorted) ≡ true
among-diseqs [] sorted h order = order
among-diseqs (Eq left right ∷ facts) sorted h order = cc
among-diseqs (Ne left right ∷ facts) sorted h order =
    among-diseqs facts (with_fact (with_sides_in_order (Ne left right)) sorted) h
    (sides-diseq left right (λ fact. are_in_order 0 (with_fact fact sorted) ≡ true) (λ l r. order-diseq 0 l r sorted order))

among-order : (facts : List Fact) (low : ℕ) (sorted : List Fact) → are_in_order low facts ≡ true → AreBelow low sorted
    → are_in_order 0 sorted ≡ true → are_in_order 0 (sorted_among facts sorted) ≡ true
among-order [] low sorted h are order = order
among-order (Eq (Var x) right ∷ facts) low sorted h are order =
    let outer = and_parts (leb low x && ltb x 65536 && is_below x right) (are_in_order (suc x) facts) h in
    let inner = and_parts (leb low x && ltb x 65536) (is_below x right) outer.0 in
    let bounds = and_parts (leb low x) (ltb x 65536) inner.0 in
    let above : low ≤ x = leb-true low x bounds.0 in
    let under : x < 65536 = ltb-true x 65536 bounds.1 in
    let wider : AreBelow x sorted = below-wider low x sorted above are in
    let there : with_fact (Eq (Var x) right) sorted ≡ sorted ++ Eq (Var x) right ∷ [] = below-last x right sorted wider in
    rw there (among-order facts (suc x) (sorted ++ Eq (Var x) right ∷ []) outer.1 (below-more x (suc x) right sorted (omega arith) wider)
    (order-more 0 x right sorted (omega arith) under inner.1 wider order))
among-order (Eq (Const n) right ∷ facts) low sorted h are order = cc
among-order (Ne left right ∷ facts) low sorted h are order = among-diseqs (Ne left right ∷ facts) sorted h order

pub sorted-order : (facts : List Fact) → are_in_order 0 facts ≡ true → are_in_order 0 (sorted_facts facts) ≡ true
sorted-order facts h = among-order facts 0 [] h tt refl

-- ---- all of it

not-false : (b : Bool) → not b ≡ true → b ≡ false
not-false true h = cc
not-false false h = refl

pub sorted-normal : (state : SymState) → is_normal state ≡ true → is_normal (state_with_facts_sorted state) ≡ true
sorted-normal state h =
    let parts = and_parts (is_normal_heap state.heap) (list_all (is_read state.heap.pure) state.locals) h in
    let heap =
    and_parts (are_normal_facts state.heap && are_normal_atoms state.heap) (not (has_clash state.heap.pure state.heap.spatial)) parts.0 in
    let both = and_parts (are_normal_facts state.heap) (are_normal_atoms state.heap) heap.0 in
    let three =
    and_parts (are_in_order 0 state.heap.pure && list_all (is_read_fact state.heap.pure) state.heap.pure)
    (not (has_redundant (addresses state.heap.spatial) state.heap.pure)) both.0 in
    let two = and_parts (are_in_order 0 state.heap.pure) (list_all (is_read_fact state.heap.pure) state.heap.pure) three.0 in
    let redundant : has_redundant (addresses state.heap.spatial) pure
    ≡ false =
    sorted-redundant (addresses state.heap.spatial) state.heap.pure
    (not-false (has_redundant (addresses state.heap.spatial) state.heap.pure) three.1) in
    let new_facts : (are_in_order 0 pure && list_all (is_read_fact pure) pure && not (has_redundant (addresses state.heap.spatial) pure))
    ≡ true =
    and_from (are_in_order 0 pure && list_all (is_read_fact pure) pure) (not (has_redundant (addresses state.heap.spatial) pure))
    (and_from (are_in_order 0 pure) (list_all (is_read_fact pure) pure) (sorted-order state.heap.pure two.0)
    (read_facts-same state.heap.pure ∙ two.1)) (ap not redundant) in
    let new_atoms : (list_all (is_read_atom pure) state.heap.spatial
    && not (list_any (is_empty [] (addresses state.heap.spatial)) state.heap.spatial) && not (has_two_junk state.heap.spatial)) ≡ true =
    ap (λ b. b && not (list_any (is_empty [] (addresses state.heap.spatial)) state.heap.spatial) && not (has_two_junk state.heap.spatial))
    (all-alike (is_read_atom pure) (is_read_atom state.heap.pure) (read_atom-same state.heap.pure) state.heap.spatial) ∙ both.1 in
    and_from (is_normal_heap (with_facts_sorted state.heap)) (list_all (is_read pure) state.locals)
    (and_from (are_normal_facts (with_facts_sorted state.heap) && are_normal_atoms (with_facts_sorted state.heap))
    (not (has_clash pure state.heap.spatial))
    (and_from (are_normal_facts (with_facts_sorted state.heap)) (are_normal_atoms (with_facts_sorted state.heap)) new_facts new_atoms)
    (ap not (clash-same state.heap.pure state.heap.spatial) ∙ heap.1))
    (reads-same state.heap.pure state.locals ∙ parts.1)
  where
    pure : List Fact
    pure = sorted_facts state.heap.pure
