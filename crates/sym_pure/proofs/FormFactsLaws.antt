-- The facts of a form are normal: equations in order, all read, and no disequality redundant.
use Rattle.std.specs.Prelude.{◌≡◌, ◌⊎◌, ℕ, suc, ◌<◌, ◌≤◌, Bool, true, false, ◌==◌, ◌&&◌, ◌||◌, ltb, leb, List, [], ◌∷◌, ◌++◌}
use Rattle.std.proofs.Common.{refl, sym, ap, ◌∙◌, arith, inl, inr, ⊎_elim}
use Rattle.std.specs.List.{list_all}
use Rattle.std.proofs.lemmas.Bool.{eqb-true, eq-eqb, ltb-true, ltb-false, lt-ltb, le-leb, or_cases, or_parts, or_left, or_right, or_from}
use Rattle.std.proofs.lemmas.Bool.{and_parts, and_from}
use Rattle.std.proofs.lemmas.Bool.Decides.{nat_tests}
use Rattle.shape_data.specs.declared.symbolic.Exp.{Exp}
use Rattle.shape_data.specs.declared.symbolic.Exp.TheVariants.{Var, Const}
use Rattle.shape_data.specs.declared.symbolic.Fact.{Fact}
use Rattle.shape_data.specs.declared.symbolic.Fact.TheVariants.{Eq, Ne}
use Rattle.sym_parts.specs.Laws.Expressions.{same_exp}
use Rattle.sym_parts.proofs.LawsLemmas.ExpressionLemmas.{same_exp-sym}
use Rattle.sym_pure.specs.declared.parts.Solved.{Solved}
use Rattle.sym_pure.specs.Contradictions.{has_same_sides}
use Rattle.sym_pure.specs.Emptying.{is_plain}
use Rattle.sym_pure.specs.IsNormal.{is_below, is_solved_in, is_disequality, are_in_order, has_redundant}
use Rattle.sym_pure.specs.Redundancy.{are_constants, is_redundant, with_needed, needed}
use Rattle.sym_pure.specs.Solving.{read, stands_behind, with_equation_of, equations}
use Rattle.sym_pure.specs.Sources.{is_written}
use Rattle.sym_pure.proofs.EquationsLaws.{is_solved, with_one}
use Rattle.sym_pure.proofs.SolutionLaws.{AreLower, AreDistinct, solved-below}

-- three tests in a row, and a fourth
pub four_parts : (a b c d : Bool) → (a && b && c && d) ≡ true → (a ≡ true) × (b ≡ true) × (c ≡ true) × (d ≡ true)
four_parts a b c d h =
    let last = and_parts (a && b && c) d h in
    let third = and_parts (a && b) c last.0 in
    let first = and_parts a b third.0 in
    (first.0, first.1, third.1, last.1)

four_from : (a b c d : Bool) → a ≡ true → b ≡ true → c ≡ true → d ≡ true → (a && b && c && d) ≡ true
four_from a b c d p q r s = and_from (a && b && c) d (and_from (a && b) c (and_from a b p q) r) s

-- ---- an equation put among equations

in_order-insert : (low variable : ℕ) (by : Exp) (facts : List Fact) → are_in_order low facts ≡ true → is_solved_in facts variable ≡ false →
    low ≤ variable → variable < 65536 → is_below variable by ≡ true →
    are_in_order low (with_equation_of variable by facts) ≡ true
in_order-insert low variable by [] ordered new above logical below =
    four_from (leb low variable) (ltb variable 65536) (is_below variable by) true (le-leb low variable above)
    (lt-ltb variable 65536 logical) below refl
in_order-insert low variable by (Ne left right ∷ facts) ordered new above logical below =
    four_from (leb low variable) (ltb variable 65536) (is_below variable by) (list_all is_disequality facts) (le-leb low variable above)
    (lt-ltb variable 65536 logical) below ordered
in_order-insert low variable by (Eq (Const n) right ∷ facts) ordered new above logical below = cc
in_order-insert low variable by (Eq (Var x) right ∷ facts) ordered new above logical below =
    by_test (ltb variable x) refl (λ over. in_order-insert (suc x) variable by facts parts.3 news.1 over logical below)
  where
    parts : (leb low x ≡ true) × (ltb x 65536 ≡ true) × (is_below x right ≡ true) × (are_in_order (suc x) facts ≡ true)
    parts = four_parts (leb low x) (ltb x 65536) (is_below x right) (are_in_order (suc x) facts) ordered

    news : ((variable == x) ≡ false) × (is_solved_in facts variable ≡ false)
    news = or_parts (variable == x) (is_solved_in facts variable) new

    by_test : (b : Bool) → ltb variable x ≡ b → (suc x ≤ variable → are_in_order (suc x) (with_equation_of variable by facts) ≡ true) →
        are_in_order low (with_equation_of variable by (Eq (Var x) right ∷ facts)) ≡ true
    by_test true e go_on =
        let under : variable < x = ltb-true variable x e in
        rw e (four_from (leb low variable) (ltb variable 65536) (is_below variable by)
        (are_in_order (suc variable) (Eq (Var x) right ∷ facts)) (le-leb low variable above) (lt-ltb variable 65536 logical) below
        (four_from (leb (suc variable) x) (ltb x 65536) (is_below x right) (are_in_order (suc x) facts)
        (le-leb (suc variable) x (omega arith)) parts.1 parts.2 parts.3))
    by_test false e go_on =
        let under : x ≤ variable = ltb-false variable x e in
        let apart : (variable == x) ≡ false = news.0 in
        let over : suc x ≤ variable = grind (arith, nat_tests) in
        rw e (four_from (leb low x) (ltb x 65536) (is_below x right)
        (are_in_order (suc x) (with_equation_of variable by facts)) parts.0 parts.1 parts.2 (go_on over))

-- the variables that are solved then
solved_in-insert : (x variable : ℕ) (by : Exp) (facts : List Fact) → is_solved_in facts x ≡ false → (x == variable) ≡ false →
    is_solved_in (with_equation_of variable by facts) x ≡ false
solved_in-insert x variable by [] none apart = rw apart refl
solved_in-insert x variable by (fact ∷ facts) none apart =
    by_test (stands_behind variable fact) refl (λ k. solved_in-insert x variable by facts k apart)
  where
    in_front : (fact : Fact) → is_solved_in (fact ∷ facts) x ≡ false → (rest : List Fact) →
        (is_solved_in facts x ≡ false → is_solved_in rest x ≡ false) → is_solved_in (fact ∷ rest) x ≡ false
    in_front (Ne left right) k rest go_on = go_on k
    in_front (Eq (Const n) right) k rest go_on = go_on k
    in_front (Eq (Var y) right) k rest go_on = let parts = or_parts (x == y) (is_solved_in facts x) k in rw (parts.0, go_on parts.1) refl

    by_test : (b : Bool) → stands_behind variable fact ≡ b →
        (is_solved_in facts x ≡ false → is_solved_in (with_equation_of variable by facts) x ≡ false) →
        is_solved_in (with_equation_of variable by (fact ∷ facts)) x ≡ false
    by_test true e go_on = rw (e, apart) none
    by_test false e go_on = rw e (in_front fact none (with_equation_of variable by facts) go_on)

-- a test that equations pass, on an equation more
all-insert : (test : Fact → Bool) (variable : ℕ) (by : Exp) (facts : List Fact) → list_all test facts ≡ true →
    test (Eq (Var variable) by) ≡ true → list_all test (with_equation_of variable by facts) ≡ true
all-insert test variable by [] h one = and_from (test (Eq (Var variable) by)) true one refl
all-insert test variable by (fact ∷ facts) h one =
    by_test (stands_behind variable fact) refl (all-insert test variable by facts parts.1 one)
  where
    parts : (test fact ≡ true) × (list_all test facts ≡ true)
    parts = and_parts (test fact) (list_all test facts) h

    by_test : (b : Bool) → stands_behind variable fact ≡ b → list_all test (with_equation_of variable by facts) ≡ true →
        list_all test (with_equation_of variable by (fact ∷ facts)) ≡ true
    by_test true e k = rw e (and_from (test (Eq (Var variable) by)) (list_all test (fact ∷ facts)) one h)
    by_test false e k = rw e (and_from (test fact) (list_all test (with_equation_of variable by facts)) parts.0 k)

-- ---- all equations

module _ (all : List Solved) (lower : AreLower all) where
  -- what is to come is solved, and has no equation yet
  pub equations-order : (later : List Solved) (facts : List Fact) → AreDistinct later →
      ((x : ℕ) → is_solved x later ≡ true → is_solved x all ≡ true) → ((x : ℕ) → is_solved x later ≡ true → is_solved_in facts x ≡ false) →
      are_in_order 0 facts ≡ true → are_in_order 0 (equations all later facts) ≡ true
  equations-order [] facts distinct among new ordered = ordered
  equations-order (first ∷ later) facts distinct among new ordered =
      equations-order later (with_one all first facts) distinct.1
      (λ x is. among x (or_right (x == first.variable) (is_solved x later) is)) later_new (by_test (ltb first.variable 65536) refl)
    where
      here : is_solved first.variable (first ∷ later) ≡ true
      here = or_left (first.variable == first.variable) (is_solved first.variable later) (eq-eqb first.variable first.variable refl)

      by_test : (b : Bool) → ltb first.variable 65536 ≡ b → are_in_order 0 (with_one all first facts) ≡ true
      by_test true e =
          rw e (in_order-insert 0 first.variable (read all (Var first.variable)) facts ordered (new first.variable here) (omega arith)
          (ltb-true first.variable 65536 e)
          (solved-below first.variable all lower (among first.variable here)))
      by_test false e = rw e ordered

      later_new : (x : ℕ) → is_solved x later ≡ true → is_solved_in (with_one all first facts) x ≡ false
      later_new x is = by_size (ltb first.variable 65536) refl
        where
          old : is_solved_in facts x ≡ false
          old = new x (or_right (x == first.variable) (is_solved x later) is)

          apart : (b : Bool) → (x == first.variable) ≡ b → (x == first.variable) ≡ false
          apart false e = e
          apart true e = let same : x ≡ first.variable = eqb-true x first.variable e in let twice : is_solved first.variable later
              ≡ true = rw same at is in let once = distinct.0 in cc

          by_size : (b : Bool) → ltb first.variable 65536 ≡ b → is_solved_in (with_one all first facts) x ≡ false
          by_size true e =
              rw e (solved_in-insert x first.variable (read all (Var first.variable)) facts old (apart (x == first.variable) refl))
          by_size false e = rw e old

-- only what is solved has an equation
module _ (all : List Solved) where
  pub equations-solved_in : (x : ℕ) (later : List Solved) (facts : List Fact) → is_solved x later ≡ false → is_solved_in facts x ≡ false →
      is_solved_in (equations all later facts) x ≡ false
  equations-solved_in x [] facts none k = k
  equations-solved_in x (first ∷ later) facts none k =
      let parts =
      or_parts (x == first.variable) (is_solved x later) none in equations-solved_in x later (with_one all first facts) parts.1
      (by_test (ltb first.variable 65536) refl parts.0)
    where
      by_test : (b : Bool) → ltb first.variable 65536 ≡ b → (x == first.variable) ≡ false →
          is_solved_in (with_one all first facts) x ≡ false
      by_test true e apart = rw e (solved_in-insert x first.variable (read all (Var first.variable)) facts k apart)
      by_test false e apart = rw e k

  -- a test that each solved equation passes, with its right side read
  pub equations-all : (test : Fact → Bool) → ((x : ℕ) → test (Eq (Var x) (read all (Var x))) ≡ true) →
      (later : List Solved) (facts : List Fact) → list_all test facts ≡ true → list_all test (equations all later facts) ≡ true
  equations-all test passes [] facts h = h
  equations-all test passes (first ∷ later) facts h =
      equations-all test passes later (with_one all first facts) (by_test (ltb first.variable 65536) refl)
    where
      by_test : (b : Bool) → ltb first.variable 65536 ≡ b → list_all test (with_one all first facts) ≡ true
      by_test true e = rw e (all-insert test first.variable (read all (Var first.variable)) facts h (passes first.variable))
      by_test false e = rw e h

-- ---- a disequality behind them

all-push : (test : Fact → Bool) (kept : List Fact) (fact : Fact) → list_all test kept ≡ true → test fact ≡ true →
    list_all test (kept ++ fact ∷ []) ≡ true
all-push test [] fact h one = and_from (test fact) true one refl
all-push test (first ∷ kept) fact h one =
    let parts =
    and_parts (test first) (list_all test kept) h in and_from (test first) (list_all test (kept ++ fact ∷ [])) parts.0
    (all-push test kept fact parts.1 one)

in_order-push : (low : ℕ) (kept : List Fact) (left right : Exp) → are_in_order low kept ≡ true →
    are_in_order low (kept ++ Ne left right ∷ []) ≡ true
in_order-push low [] left right h = refl
in_order-push low (Ne a b ∷ kept) left right h = all-push is_disequality kept (Ne left right) h refl
in_order-push low (Eq (Const n) b ∷ kept) left right h = cc
in_order-push low (Eq (Var x) b ∷ kept) left right h =
    let parts = four_parts (leb low x) (ltb x 65536) (is_below x b) (are_in_order (suc x) kept) h in
    four_from (leb low x) (ltb x 65536) (is_below x b) (are_in_order (suc x) (kept ++ Ne left right ∷ [])) parts.0 parts.1 parts.2
    (in_order-push (suc x) kept left right parts.3)

solved_in-push : (x : ℕ) (kept : List Fact) (left right : Exp) → is_solved_in (kept ++ Ne left right ∷ []) x ≡ is_solved_in kept x
solved_in-push x [] left right = refl
solved_in-push x (Ne a b ∷ kept) left right = solved_in-push x kept left right
solved_in-push x (Eq (Const n) b ∷ kept) left right = solved_in-push x kept left right
solved_in-push x (Eq (Var y) b ∷ kept) left right = ap (λ t. (x == y) || t) (solved_in-push x kept left right)

written-push : (kept : List Fact) (left right e f : Exp) →
    is_written (kept ++ Ne left right ∷ []) e f ≡ (is_written kept e f || is_written (Ne left right ∷ []) e f)
written-push [] left right e f = refl
written-push (Eq a b ∷ kept) left right e f = written-push kept left right e f
written-push (Ne a b ∷ kept) left right e f =
    shuffle (same_exp a e && same_exp b f) (same_exp a f && same_exp b e) (is_written kept e f) (is_written (Ne left right ∷ []) e f)
    (is_written (kept ++ Ne left right ∷ []) e f) (written-push kept left right e f)
  where
    shuffle : (p q r s w : Bool) → w ≡ (r || s) → (p || (q || w)) ≡ ((p || (q || r)) || s)
    shuffle true q r s w e = refl
    shuffle false true r s w e = refl
    shuffle false false r s w e = e

-- a disequality and its sides turned about
pub written_one-sym : (a b left right : Exp) → is_written (Ne left right ∷ []) a b ≡ is_written (Ne a b ∷ []) left right
written_one-sym a b left right =
    rw (same_exp-sym left a, same_exp-sym right b, same_exp-sym left b, same_exp-sym right a)
    (turned (same_exp a left && same_exp b right) (same_exp b left) (same_exp a right))
  where
    turned : (p q r : Bool) → (p || ((q && r) || false)) ≡ (p || ((r && q) || false))
    turned p true true = refl
    turned p true false = refl
    turned p false true = refl
    turned p false false = refl

redundant-push : (cells : List Exp) (kept : List Fact) (left right : Exp) → has_redundant cells kept ≡ false →
    is_redundant cells kept left right ≡ false → has_redundant cells (kept ++ Ne left right ∷ []) ≡ false
redundant-push cells [] left right h one = or_from (is_redundant cells [] left right) false one refl
redundant-push cells (Eq a b ∷ kept) left right h one = redundant-push cells kept left right h one
redundant-push cells (Ne a b ∷ kept) left right h one =
    or_from (is_redundant cells (kept ++ Ne left right ∷ []) a b) (has_redundant cells (kept ++ Ne left right ∷ [])) first_stays
    (redundant-push cells kept left right parts.1
    (or_from (are_constants left right) ((is_plain cells left && is_plain cells right) || is_written kept left right) ones.0
    (or_from (is_plain cells left && is_plain cells right) (is_written kept left right) others.0 unwritten.1.1)))
  where
    parts : (is_redundant cells kept a b ≡ false) × (has_redundant cells kept ≡ false)
    parts = or_parts (is_redundant cells kept a b) (has_redundant cells kept) h

    ones : (are_constants left right ≡ false)
        × (((is_plain cells left && is_plain cells right) || is_written (Ne a b ∷ kept) left right) ≡ false)
    ones = or_parts (are_constants left right) ((is_plain cells left && is_plain cells right) || is_written (Ne a b ∷ kept) left right) one

    others : ((is_plain cells left && is_plain cells right) ≡ false) × (is_written (Ne a b ∷ kept) left right ≡ false)
    others = or_parts (is_plain cells left && is_plain cells right) (is_written (Ne a b ∷ kept) left right) ones.1

    unwritten : ((same_exp a left && same_exp b right) ≡ false)
        × (((same_exp a right && same_exp b left) ≡ false) × (is_written kept left right ≡ false))
    unwritten =
        let outer =
        or_parts (same_exp a left && same_exp b right) ((same_exp a right && same_exp b left) || is_written kept left right) others.1 in
        (outer.0, or_parts (same_exp a right && same_exp b left) (is_written kept left right) outer.1)

    new_apart : is_written (Ne left right ∷ []) a b ≡ false
    new_apart =
        written_one-sym a b left right
        ∙ or_from (same_exp a left && same_exp b right) ((same_exp a right && same_exp b left) || false) unwritten.0
        (or_from (same_exp a right && same_exp b left) false unwritten.1.0 refl)

    first_stays : is_redundant cells (kept ++ Ne left right ∷ []) a b ≡ false
    first_stays =
        let old = or_parts (are_constants a b) ((is_plain cells a && is_plain cells b) || is_written kept a b) parts.0 in
        let older = or_parts (is_plain cells a && is_plain cells b) (is_written kept a b) old.1 in
        or_from (are_constants a b) ((is_plain cells a && is_plain cells b) || is_written (kept ++ Ne left right ∷ []) a b) old.0
        (or_from (is_plain cells a && is_plain cells b) (is_written (kept ++ Ne left right ∷ []) a b) older.0
        (written-push kept left right a b ∙ or_from (is_written kept a b) (is_written (Ne left right ∷ []) a b) older.1 new_apart))

-- equations are not redundant
redundant-insert : (cells : List Exp) (variable : ℕ) (by : Exp) (facts : List Fact) → has_redundant cells facts ≡ false →
    has_redundant cells (with_equation_of variable by facts) ≡ false
redundant-insert cells variable by [] h = refl
redundant-insert cells variable by (Ne left right ∷ facts) h = h
redundant-insert cells variable by (Eq (Const n) right ∷ facts) h = h
redundant-insert cells variable by (Eq (Var x) right ∷ facts) h = by_test (ltb variable x) refl (redundant-insert cells variable by facts h)
  where
    by_test : (b : Bool) → ltb variable x ≡ b → has_redundant cells (with_equation_of variable by facts) ≡ false →
        has_redundant cells (with_equation_of variable by (Eq (Var x) right ∷ facts)) ≡ false
    by_test true e k = rw e h
    by_test false e k = rw e k

pub equations-redundant : (cells : List Exp) (all later : List Solved) (facts : List Fact) → has_redundant cells facts ≡ false →
    has_redundant cells (equations all later facts) ≡ false
equations-redundant cells all [] facts h = h
equations-redundant cells all (first ∷ later) facts h =
    equations-redundant cells all later (with_one all first facts) (by_test (ltb first.variable 65536) refl)
  where
    by_test : (b : Bool) → ltb first.variable 65536 ≡ b → has_redundant cells (with_one all first facts) ≡ false
    by_test true e = rw e (redundant-insert cells first.variable (read all (Var first.variable)) facts h)
    by_test false e = rw e h

-- ---- all disequalities that are needed

module _ (cells : List Exp) where
  -- each step is a disequality that is not redundant behind what is kept
  needed-keeps : (Keeps : List Fact → Type 0) →
      ((kept : List Fact) (left right : Exp) → is_redundant cells kept left right ≡ false → Keeps kept →
      Keeps (kept ++ Ne left right ∷ [])) →
      (facts kept : List Fact) → Keeps kept → Keeps (needed cells facts kept)
  needed-keeps Keeps step [] kept k = k
  needed-keeps Keeps step (Eq left right ∷ facts) kept k = needed-keeps Keeps step facts kept k
  needed-keeps Keeps step (Ne left right ∷ facts) kept k =
      needed-keeps Keeps step facts (with_needed cells kept left right) (by_test (is_redundant cells kept left right) refl)
    where
      by_test : (b : Bool) → is_redundant cells kept left right ≡ b → Keeps (with_needed cells kept left right)
      by_test true e = rw e k
      by_test false e = rw e (step kept left right e k)

  pub needed-order : (facts kept : List Fact) → are_in_order 0 kept ≡ true → are_in_order 0 (needed cells facts kept) ≡ true
  needed-order = needed-keeps (λ kept. are_in_order 0 kept ≡ true) (λ kept left right e. in_order-push 0 kept left right)

  pub needed-redundant : (facts kept : List Fact) → has_redundant cells kept ≡ false → has_redundant cells (needed cells facts kept) ≡ false
  needed-redundant =
      needed-keeps (λ kept. has_redundant cells kept ≡ false) (λ kept left right e k. redundant-push cells kept left right k e)

  pub needed-solved_in : (x : ℕ) (facts kept : List Fact) → is_solved_in kept x ≡ false → is_solved_in (needed cells facts kept) x ≡ false
  needed-solved_in x = needed-keeps (λ kept. is_solved_in kept x ≡ false) (λ kept left right e k. solved_in-push x kept left right ∙ k)

  -- a test that each disequality passes
  pub needed-all : (test : Fact → Bool) (facts kept : List Fact) → list_all test facts ≡ true → list_all test kept ≡ true →
      list_all test (needed cells facts kept) ≡ true
  needed-all test [] kept f k = k
  needed-all test (Eq left right ∷ facts) kept f k =
      needed-all test facts kept (and_parts (test (Eq left right)) (list_all test facts) f).1 k
  needed-all test (Ne left right ∷ facts) kept f k =
      let parts = and_parts (test (Ne left right)) (list_all test facts) f in
      needed-all test facts (with_needed cells kept left right) parts.1 (by_test parts.0 (is_redundant cells kept left right) refl)
    where
      by_test : test (Ne left right) ≡ true → (b : Bool) → is_redundant cells kept left right ≡ b →
          list_all test (with_needed cells kept left right) ≡ true
      by_test one true e = rw e k
      by_test one false e = rw e (all-push test kept (Ne left right) k one)

  -- what is written then was written
  pub needed-written : (facts kept : List Fact) (e f : Exp) → is_written (needed cells facts kept) e f ≡ true →
      (is_written kept e f ≡ true) ⊎ (is_written facts e f ≡ true)
  needed-written [] kept e f h = inl h
  needed-written (Eq left right ∷ facts) kept e f h = needed-written facts kept e f h
  needed-written (Ne left right ∷ facts) kept e f h =
      ⊎_elim (λ k. by_test (is_redundant cells kept left right) refl k)
      (λ later. inr (behind (same_exp left e && same_exp right f) (same_exp left f && same_exp right e) later))
      (needed-written facts (with_needed cells kept left right) e f h)
    where
      behind : (p q : Bool) → is_written facts e f ≡ true → (p || (q || is_written facts e f)) ≡ true
      behind p q k = or_right p (q || is_written facts e f) (or_right q (is_written facts e f) k)

      first_one : (p q r : Bool) → (p || (q || false)) ≡ true → (p || (q || r)) ≡ true
      first_one true q r k = refl
      first_one false true r k = refl
      first_one false false r k = cc

      by_test : (b : Bool) → is_redundant cells kept left right ≡ b → is_written (with_needed cells kept left right) e f ≡ true →
          (is_written kept e f ≡ true) ⊎ (is_written (Ne left right ∷ facts) e f ≡ true)
      by_test true r k = let k' : is_written kept e f ≡ true = rw r at k in inl k'
      by_test false r k =
          let k' : is_written (kept ++ Ne left right ∷ []) e f ≡ true = rw r at k in
          let k'' : (is_written kept e f || is_written (Ne left right ∷ []) e f) ≡ true = sym (written-push kept left right e f) ∙ k' in
          ⊎_elim (λ old. inl old)
          (λ new. inr (first_one (same_exp left e && same_exp right f) (same_exp left f && same_exp right e) (is_written facts e f) new))
          (or_cases (is_written kept e f) (is_written (Ne left right ∷ []) e f) k'')

  same_sides-push : (kept : List Fact) (left right : Exp) →
      has_same_sides (kept ++ Ne left right ∷ []) ≡ (has_same_sides kept || same_exp left right)
  same_sides-push [] left right = or_none (same_exp left right)
    where
      or_none : (p : Bool) → (p || false) ≡ p
      or_none true = refl
      or_none false = refl
  same_sides-push (Eq a b ∷ kept) left right = same_sides-push kept left right
  same_sides-push (Ne a b ∷ kept) left right =
      shuffle (same_exp a b) (has_same_sides kept) (same_exp left right) (has_same_sides (kept ++ Ne left right ∷ []))
      (same_sides-push kept left right)
    where
      shuffle : (p r s w : Bool) → w ≡ (r || s) → (p || w) ≡ ((p || r) || s)
      shuffle true r s w e = refl
      shuffle false r s w e = e

  pub needed-same_sides : (facts kept : List Fact) → has_same_sides facts ≡ false → has_same_sides kept ≡ false →
      has_same_sides (needed cells facts kept) ≡ false
  needed-same_sides [] kept f k = k
  needed-same_sides (Eq left right ∷ facts) kept f k = needed-same_sides facts kept f k
  needed-same_sides (Ne left right ∷ facts) kept f k =
      let parts =
      or_parts (same_exp left right) (has_same_sides facts) f in needed-same_sides facts (with_needed cells kept left right) parts.1
      (by_test parts.0 (is_redundant cells kept left right) refl)
    where
      by_test : same_exp left right ≡ false → (b : Bool) → is_redundant cells kept left right ≡ b →
          has_same_sides (with_needed cells kept left right) ≡ false
      by_test apart true r = rw r k
      by_test apart false r = rw r (same_sides-push kept left right ∙ or_from (has_same_sides kept) (same_exp left right) k apart)

-- equations say nothing of disequalities
same_sides-insert : (variable : ℕ) (by : Exp) (facts : List Fact) →
    has_same_sides (with_equation_of variable by facts) ≡ has_same_sides facts
same_sides-insert variable by [] = refl
same_sides-insert variable by (Ne left right ∷ facts) = refl
same_sides-insert variable by (Eq (Const n) right ∷ facts) = refl
same_sides-insert variable by (Eq (Var x) right ∷ facts) = by_test (ltb variable x) refl (same_sides-insert variable by facts)
  where
    by_test : (b : Bool) → ltb variable x ≡ b → has_same_sides (with_equation_of variable by facts) ≡ has_same_sides facts →
        has_same_sides (with_equation_of variable by (Eq (Var x) right ∷ facts)) ≡ has_same_sides facts
    by_test true e k = rw e refl
    by_test false e k = rw e k

written-insert : (variable : ℕ) (by : Exp) (facts : List Fact) (e f : Exp) →
    is_written (with_equation_of variable by facts) e f ≡ is_written facts e f
written-insert variable by [] e f = refl
written-insert variable by (Ne left right ∷ facts) e f = refl
written-insert variable by (Eq (Const n) right ∷ facts) e f = refl
written-insert variable by (Eq (Var x) right ∷ facts) e f = by_test (ltb variable x) refl (written-insert variable by facts e f)
  where
    by_test : (b : Bool) → ltb variable x ≡ b → is_written (with_equation_of variable by facts) e f ≡ is_written facts e f →
        is_written (with_equation_of variable by (Eq (Var x) right ∷ facts)) e f ≡ is_written facts e f
    by_test true g k = rw g refl
    by_test false g k = rw g k

module _ (all : List Solved) where
  pub equations-same_sides : (later : List Solved) (facts : List Fact) → has_same_sides (equations all later facts) ≡ has_same_sides facts
  equations-same_sides [] facts = refl
  equations-same_sides (first ∷ later) facts =
      equations-same_sides later (with_one all first facts) ∙ by_test (ltb first.variable 65536) refl
    where
      by_test : (b : Bool) → ltb first.variable 65536 ≡ b → has_same_sides (with_one all first facts) ≡ has_same_sides facts
      by_test true e = rw e (same_sides-insert first.variable (read all (Var first.variable)) facts)
      by_test false e = rw e refl

  pub equations-written : (later : List Solved) (facts : List Fact) (e f : Exp) →
      is_written (equations all later facts) e f ≡ is_written facts e f
  equations-written [] facts e f = refl
  equations-written (first ∷ later) facts e f =
      equations-written later (with_one all first facts) e f ∙ by_test (ltb first.variable 65536) refl
    where
      by_test : (b : Bool) → ltb first.variable 65536 ≡ b → is_written (with_one all first facts) e f ≡ is_written facts e f
      by_test true g = rw g (written-insert first.variable (read all (Var first.variable)) facts e f)
      by_test false g = rw g refl
