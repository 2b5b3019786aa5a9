-- A normal state is its own form: each rule finds nothing to do.
use Rattle.std.specs.Prelude.{◌≡◌, ℕ, zero, suc, ◌<◌, ◌≤◌, Bool, true, false, not, ◌==◌, ◌&&◌, ◌||◌, ltb, leb, List, [], ◌∷◌, ◌++◌, map}
use Rattle.std.specs.Prelude.{length, filter, nat_lt}
use Rattle.std.proofs.Common.{refl, sym, ap, ap₂, ◌∙◌, arith}
use Rattle.std.specs.List.{cons_option, list_all, list_any, position, position_or_len}
use Rattle.std.specs.declared.option.Option.TheVariants.{None, Some}
use Rattle.std.proofs.lemmas.List.{append-nil, append_assoc}
use Rattle.std.proofs.lemmas.Bool.{eqb-true, eq-eqb, ltb-true, leb-true, or_parts, or_from, or_left, or_right, and_parts, not-true}
use Rattle.shape_data.specs.declared.symbolic.Atom.{Atom}
use Rattle.shape_data.specs.declared.symbolic.Atom.TheVariants.{Points, Seg, Junk}
use Rattle.shape_data.specs.declared.symbolic.Exp.{Exp}
use Rattle.shape_data.specs.declared.symbolic.Exp.TheVariants.{Var, Const}
use Rattle.shape_data.specs.declared.symbolic.Fact.{Fact}
use Rattle.shape_data.specs.declared.symbolic.Fact.TheVariants.{Eq, Ne}
use Rattle.shape_data.specs.declared.symbolic.SymState.{SymState}
use Rattle.sym_parts.specs.Laws.Addresses.{addresses}
use Rattle.sym_parts.specs.Laws.Expressions.{same_exp}
use Rattle.sym_parts.specs.Laws.Junks.{is_junk, is_other}
use Rattle.sym_parts.specs.Laws.Mapped.{on_atom}
use Rattle.sym_pure.specs.declared.parts.Normal.TheVariants.{Is}
use Rattle.sym_pure.specs.declared.parts.Solved.{Solved}
use Rattle.sym_pure.specs.Contradictions.{has_same_sides, has_clash}
use Rattle.sym_pure.specs.Emptying.{is_plain, is_empty, place_of_empty, settle}
use Rattle.sym_pure.specs.IsNormal.{is_below, is_solved_in, is_read, is_read_fact, is_read_atom, is_disequality, are_in_order}
use Rattle.sym_pure.specs.IsNormal.{has_redundant, has_two_junk, are_normal_facts, are_normal_atoms, is_normal_heap, is_normal}
use Rattle.sym_pure.specs.Laws.{NormalIsItself}
use Rattle.sym_pure.specs.Normal.{disequalities, form_of, normal_of, normal_settled, normal_solved, normal}
use Rattle.sym_pure.specs.Redundancy.{are_constants, is_redundant, needed, one_junk}
use Rattle.sym_pure.specs.Solving.{instead, read, with_solved, with_read, with_equation, unless_clash, solve, with_equation_of, equations}
use Rattle.sym_pure.specs.Sources.{is_written, sources}
use Rattle.sym_pure.proofs.EquationsLaws.{is_solved, read-unsolved, with_one}
use Rattle.sym_pure.proofs.FormFactsLaws.{four_parts, written_one-sym}
use Rattle.sym_pure.proofs.FormLaws.{form_is_normal}
use Rattle.sym_pure.proofs.SolvingLaws.{read-Const}

-- ---- the equations of normal facts, as they are solved

-- the equations, each as a solved one
abbrev solved_of : List Fact → List Solved
solved_of [] = []
solved_of (Eq (Var x) right ∷ facts) = record { variable = x; by = right } ∷ solved_of facts
solved_of (Eq (Const n) right ∷ facts) = solved_of facts
solved_of (Ne left right ∷ facts) = solved_of facts

-- the disequalities, and the equations
abbrev nes : List Fact → List Fact
nes facts = filter is_disequality facts

abbrev is_equation : Fact → Bool
is_equation fact = not (is_disequality fact)

abbrev eqs : List Fact → List Fact
eqs facts = filter is_equation facts

solved_of-solved : (x : ℕ) (facts : List Fact) → is_solved x (solved_of facts) ≡ is_solved_in facts x
solved_of-solved x [] = refl
solved_of-solved x (Eq (Var y) right ∷ facts) = ap (λ t. (x == y) || t) (solved_of-solved x facts)
solved_of-solved x (Eq (Const n) right ∷ facts) = solved_of-solved x facts
solved_of-solved x (Ne left right ∷ facts) = solved_of-solved x facts

-- where there are disequalities alone
solved_of-nes : (facts : List Fact) → list_all is_disequality facts ≡ true → solved_of facts ≡ []
solved_of-nes [] h = refl
solved_of-nes (Eq left right ∷ facts) h = cc
solved_of-nes (Ne left right ∷ facts) h = solved_of-nes facts h

solve-nes : (facts : List Fact) (s : List Solved) → list_all is_disequality facts ≡ true → solve facts s ≡ Some s
solve-nes [] s h = refl
solve-nes (Eq left right ∷ facts) s h = cc
solve-nes (Ne left right ∷ facts) s h = solve-nes facts s h

eqs-nes : (facts : List Fact) → list_all is_disequality facts ≡ true → eqs facts ≡ []
eqs-nes [] h = refl
eqs-nes (Eq left right ∷ facts) h = cc
eqs-nes (Ne left right ∷ facts) h = eqs-nes facts h

nes-nes : (facts : List Fact) → list_all is_disequality facts ≡ true → nes facts ≡ facts
nes-nes [] h = refl
nes-nes (Eq left right ∷ facts) h = cc
nes-nes (Ne left right ∷ facts) h = ap (λ rest. Ne left right ∷ rest) (nes-nes facts h)

-- equations come first
in_order-parts : (low : ℕ) (facts : List Fact) → are_in_order low facts ≡ true → eqs facts ++ nes facts ≡ facts
in_order-parts low [] h = refl
in_order-parts low (Ne left right ∷ facts) h = rw (eqs-nes facts h, nes-nes facts h) refl
in_order-parts low (Eq (Const n) right ∷ facts) h = cc
in_order-parts low (Eq (Var x) right ∷ facts) h =
    let parts =
    four_parts (leb low x) (ltb x 65536) (is_below x right) (are_in_order (suc x) facts) h in ap (λ rest. Eq (Var x) right ∷ rest)
    (in_order-parts (suc x) facts parts.3)

-- ---- reading through some of the solved equations

module _ (whole : List Fact) where
  -- the variables are among those of the facts
  abbrev AreAmong : List Solved → Type 0
  AreAmong s = (x : ℕ) → is_solved x s ≡ true → is_solved_in whole x ≡ true

  unsolved_of : (s : List Solved) (x : ℕ) → AreAmong s → is_solved_in whole x ≡ false → is_solved x s ≡ false
  unsolved_of s x among none = by_test (is_solved x s) refl
    where
      by_test : (b : Bool) → is_solved x s ≡ b → is_solved x s ≡ false
      by_test false e = e
      by_test true e = let there = among x e in cc

  read-itself : (s : List Solved) (e : Exp) → AreAmong s → is_read whole e ≡ true → read s e ≡ e
  read-itself s (Var x) among h = read-unsolved x s (unsolved_of s x among (not-true (is_solved_in whole x) h))
  read-itself s (Const n) among h = read-Const s n

  map-itself : (s : List Solved) (es : List Exp) → AreAmong s → list_all (is_read whole) es ≡ true → map (read s) es ≡ es
  map-itself s [] among h = refl
  map-itself s (e ∷ es) among h =
      let parts =
      and_parts (is_read whole e) (list_all (is_read whole) es) h in ap₂ (λ x xs. x ∷ xs) (read-itself s e among parts.0)
      (map-itself s es among parts.1)

  atom-itself : (s : List Solved) (atom : Atom) → AreAmong s → is_read_atom whole atom ≡ true → on_atom (read s) atom ≡ atom
  atom-itself s (Points at kind fields) among h =
      let parts =
      and_parts (is_read whole at) (list_all (is_read whole) fields) h in rw
      (read-itself s at among parts.0, map-itself s fields among parts.1) refl
  atom-itself s (Seg kind link from to) among h =
      let parts =
      and_parts (is_read whole from) (is_read whole to) h in rw (read-itself s from among parts.0, read-itself s to among parts.1) refl
  atom-itself s Junk among h = refl

  atoms-itself : (s : List Solved) (atoms : List Atom) → AreAmong s → list_all (is_read_atom whole) atoms ≡ true →
      map (on_atom (read s)) atoms ≡ atoms
  atoms-itself s [] among h = refl
  atoms-itself s (atom ∷ atoms) among h =
      let parts =
      and_parts (is_read_atom whole atom) (list_all (is_read_atom whole) atoms) h in ap₂ (λ x xs. x ∷ xs)
      (atom-itself s atom among parts.0) (atoms-itself s atoms among parts.1)

  -- so what is empty is empty unread
  any_empty-itself : (s : List Solved) (cells : List Exp) (atoms : List Atom) → AreAmong s → list_all (is_read_atom whole) atoms ≡ true →
      list_any (is_empty s cells) atoms ≡ list_any (is_empty [] cells) atoms
  any_empty-itself s cells [] among h = refl
  any_empty-itself s cells (Points at kind fields ∷ atoms) among h =
      any_empty-itself s cells atoms among
      (and_parts (is_read_atom whole (Points at kind fields)) (list_all (is_read_atom whole) atoms) h).1
  any_empty-itself s cells (Seg kind link from to ∷ atoms) among h =
      let parts = and_parts (is_read_atom whole (Seg kind link from to)) (list_all (is_read_atom whole) atoms) h in
      let ends = and_parts (is_read whole from) (is_read whole to) parts.0 in
      ap₂ (λ x y. x || y) (ap (is_plain cells) (read-itself s from among ends.0)) (any_empty-itself s cells atoms among parts.1)
  any_empty-itself s cells (Junk ∷ atoms) among h = any_empty-itself s cells atoms among h

  disequalities-itself : (s : List Solved) (facts : List Fact) → AreAmong s → list_all (is_read_fact whole) facts ≡ true →
      disequalities s facts ≡ nes facts
  disequalities-itself s [] among h = refl
  disequalities-itself s (Eq left right ∷ facts) among h =
      disequalities-itself s facts among (and_parts (is_read_fact whole (Eq left right)) (list_all (is_read_fact whole) facts) h).1
  disequalities-itself s (Ne left right ∷ facts) among h =
      let parts = and_parts (is_read_fact whole (Ne left right)) (list_all (is_read_fact whole) facts) h in
      let sides = and_parts (is_read whole left) (is_read whole right) parts.0 in
      ap₂ (λ x xs. x ∷ xs) (rw (read-itself s left among sides.0, read-itself s right among sides.1) refl)
      (disequalities-itself s facts among parts.1)

  -- ---- the first rule: each equation is solved as it stands

  -- what is solved so far lies below, and its variables are among those of the facts
  abbrev LieBelow : ℕ → List Solved → Type 0
  LieBelow low s = (x : ℕ) → is_solved x s ≡ true → x < low

  unsolved_from : (low : ℕ) (s : List Solved) (x : ℕ) → LieBelow low s → low ≤ x → is_solved x s ≡ false
  unsolved_from low s x below above = by_test (is_solved x s) refl
    where
      by_test : (b : Bool) → is_solved x s ≡ b → is_solved x s ≡ false
      by_test false e = e
      by_test true e = let under : x < low = below x e in absurd (omega arith)

  solved-push : (z : ℕ) (s : List Solved) (x : ℕ) (by : Exp) → is_solved z (with_solved s x by) ≡ (is_solved z s || (z == x))
  solved-push z [] x by = or_none (z == x)
    where
      or_none : (p : Bool) → (p || false) ≡ p
      or_none true = refl
      or_none false = refl
  solved-push z (first ∷ later) x by =
      shuffle (z == first.variable) (is_solved z later) (z == x) (is_solved z (with_solved later x by)) (solved-push z later x by)
    where
      shuffle : (p q r w : Bool) → w ≡ (q || r) → (p || w) ≡ ((p || q) || r)
      shuffle true q r w e = refl
      shuffle false q r w e = e

  with_read-itself : (s : List Solved) (x : ℕ) (right : Exp) → is_below x right ≡ true →
      with_read s (Var x) right ≡ Some (with_solved s x right)
  with_read-itself s x (Const n) below = refl
  with_read-itself s x (Var y) below =
      let under : y < x = ltb-true y x below in by_test under (x == y) refl (ltb x y) refl
    where
      by_test : y < x → (b : Bool) → (x == y) ≡ b → (d : Bool) → ltb x y ≡ d → with_read s (Var x) (Var y) ≡ Some (with_solved s x (Var y))
      by_test under true e d f = let same : x ≡ y = eqb-true x y e in absurd (omega arith)
      by_test under false e true f = let over : x < y = ltb-true x y f in absurd (omega arith)
      by_test under false e false f = rw (e, f) refl

  -- the facts are the last of all
  abbrev AreLast : List Fact → Type 0
  AreLast facts = (x : ℕ) → is_solved_in facts x ≡ true → is_solved_in whole x ≡ true

  solve-itself : (low : ℕ) (facts : List Fact) (s : List Solved) → are_in_order low facts ≡ true →
      list_all (is_read_fact whole) facts ≡ true → AreLast facts → AreAmong s → LieBelow low s →
      solve facts s ≡ Some (s ++ solved_of facts)
  solve-itself low [] s ordered r last among below = ap (λ t. Some t) (sym (append-nil s))
  solve-itself low (Ne left right ∷ facts) s ordered r last among below =
      solve-nes facts s ordered ∙ ap (λ t. Some t) (sym (append-nil s) ∙ ap (λ rest. s ++ rest) (sym (solved_of-nes facts ordered)))
  solve-itself low (Eq (Const n) right ∷ facts) s ordered r last among below = cc
  solve-itself low (Eq (Var x) right ∷ facts) s ordered r last among below =
      ap (unless_clash (λ more. solve facts more)) one
      ∙ (solve-itself (suc x) facts (with_solved s x right) parts.3 reads.1
      (λ z is. last z (or_right (z == x) (is_solved_in facts z) is)) among_more below_more
      ∙ ap (λ t. Some t) (append_assoc s (record { variable = x; by = right } ∷ []) (solved_of facts)))
    where
      parts : (leb low x ≡ true) × (ltb x 65536 ≡ true) × (is_below x right ≡ true) × (are_in_order (suc x) facts ≡ true)
      parts = four_parts (leb low x) (ltb x 65536) (is_below x right) (are_in_order (suc x) facts) ordered

      reads : (is_read whole right ≡ true) × (list_all (is_read_fact whole) facts ≡ true)
      reads = and_parts (is_read whole right) (list_all (is_read_fact whole) facts) r

      one : with_equation s (Var x) right ≡ Some (with_solved s x right)
      one =
          rw (read-unsolved x s (unsolved_from low s x below (leb-true low x parts.0)), read-itself s right among reads.0)
          (with_read-itself s x right parts.2)

      cases : (z : ℕ) (P : Type 0) → is_solved z (with_solved s x right) ≡ true → (is_solved z s ≡ true → P) → (z ≡ x → P) → P
      cases z P is on_old on_new = by_test (is_solved z s) refl (sym (solved-push z s x right) ∙ is)
        where
          by_test : (b : Bool) → is_solved z s ≡ b → (is_solved z s || (z == x)) ≡ true → P
          by_test true e k = on_old e
          by_test false e k = let k' : (z == x) ≡ true = rw e at k in on_new (eqb-true z x k')

      among_more : AreAmong (with_solved s x right)
      among_more z is =
          cases z (is_solved_in whole z ≡ true) is (λ old. among z old)
          (λ same. rw same (last x (or_left (x == x) (is_solved_in facts x) (eq-eqb x x refl))))

      below_more : LieBelow (suc x) (with_solved s x right)
      below_more z is =
          cases z (z < suc x) is (λ old. let under : z < low = below z old in let above : low ≤ x = leb-true low x parts.0 in omega arith)
          (λ same. omega arith)

-- ---- the equations that stay are those that were there

-- what is kept are equations of variables below
abbrev AreBefore : ℕ → List Fact → Type 0
AreBefore low [] = Unit {0}
AreBefore low (Ne left right ∷ kept) = ⊥
AreBefore low (Eq (Const n) right ∷ kept) = ⊥
AreBefore low (Eq (Var z) right ∷ kept) = (z < low) × AreBefore low kept

before-insert : (low x : ℕ) (by : Exp) (kept : List Fact) → AreBefore low kept → low ≤ x →
    with_equation_of x by kept ≡ kept ++ Eq (Var x) by ∷ []
before-insert low x by [] before above = refl
before-insert low x by (Ne left right ∷ kept) before above = absurd before
before-insert low x by (Eq (Const n) right ∷ kept) before above = absurd before
before-insert low x by (Eq (Var z) right ∷ kept) before above = by_test before.0 (ltb x z) refl (before-insert low x by kept before.1 above)
  where
    by_test : z < low → (b : Bool) → ltb x z ≡ b → with_equation_of x by kept ≡ kept ++ Eq (Var x) by ∷ [] →
        with_equation_of x by (Eq (Var z) right ∷ kept) ≡ Eq (Var z) right ∷ kept ++ Eq (Var x) by ∷ []
    by_test under true e k = let over : x < z = ltb-true x z e in absurd (omega arith)
    by_test under false e k = rw e (ap (λ rest. Eq (Var z) right ∷ rest) k)

before-push : (low x : ℕ) (by : Exp) (kept : List Fact) → AreBefore low kept → low ≤ x → AreBefore (suc x) (kept ++ Eq (Var x) by ∷ [])
before-push low x by [] before above = (omega arith, tt)
before-push low x by (Ne left right ∷ kept) before above = absurd before
before-push low x by (Eq (Const n) right ∷ kept) before above = absurd before
before-push low x by (Eq (Var z) right ∷ kept) before above =
    let under : z < low = before.0 in (omega arith, before-push low x by kept before.1 above)

read-append : (s t : List Solved) (e : Exp) → read (s ++ t) e ≡ read t (read s e)
read-append [] t e = refl
read-append (first ∷ s) t e = read-append s t (instead first.variable first.by e)

module _ (whole : List Fact) (all : List Solved) where
  equations-itself : (low : ℕ) (facts : List Fact) (s : List Solved) (kept : List Fact) → are_in_order low facts ≡ true →
      list_all (is_read_fact whole) facts ≡ true → AreLast whole facts → LieBelow whole low s →
      all ≡ s ++ solved_of facts → AreBefore low kept → equations all (solved_of facts) kept ≡ kept ++ eqs facts
  equations-itself low [] s kept ordered r last below is before = sym (append-nil kept)
  equations-itself low (Ne left right ∷ facts) s kept ordered r last below is before =
      rw (solved_of-nes facts ordered, eqs-nes facts ordered) (sym (append-nil kept))
  equations-itself low (Eq (Const n) right ∷ facts) s kept ordered r last below is before = cc
  equations-itself low (Eq (Var x) right ∷ facts) s kept ordered r last below is before =
      ap (equations all (solved_of facts)) one
      ∙ (equations-itself (suc x) facts (s ++ record { variable = x; by = right } ∷ []) (kept ++ Eq (Var x) right ∷ []) parts.3 reads.1
      (λ z in_facts. last z (or_right (z == x) (is_solved_in facts z) in_facts)) below_more
      (is ∙ sym (append_assoc s (record { variable = x; by = right } ∷ []) (solved_of facts))) (before-push low x right kept before above)
      ∙ append_assoc kept (Eq (Var x) right ∷ []) (eqs facts))
    where
      parts : (leb low x ≡ true) × (ltb x 65536 ≡ true) × (is_below x right ≡ true) × (are_in_order (suc x) facts ≡ true)
      parts = four_parts (leb low x) (ltb x 65536) (is_below x right) (are_in_order (suc x) facts) ordered

      above : low ≤ x
      above = leb-true low x parts.0

      reads : (is_read whole right ≡ true) × (list_all (is_read_fact whole) facts ≡ true)
      reads = and_parts (is_read whole right) (list_all (is_read_fact whole) facts) r

      among_later : AreAmong whole (solved_of facts)
      among_later z in_later = last z (or_right (z == x) (is_solved_in facts z) (sym (solved_of-solved z facts) ∙ in_later))

      x_reads : read all (Var x) ≡ right
      x_reads =
          rw is (read-append s (record { variable = x; by = right } ∷ solved_of facts) (Var x)
          ∙ (ap (read (record { variable = x; by = right } ∷ solved_of facts)) (read-unsolved x s (unsolved_from whole low s x below above))
          ∙ (ap (read (solved_of facts)) itself ∙ read-itself whole (solved_of facts) right among_later reads.0)))
        where
          itself : instead x right (Var x) ≡ right
          itself = rw (eq-eqb x x refl) refl

      one : with_one all (record { variable = x; by = right }) kept ≡ kept ++ Eq (Var x) right ∷ []
      one = rw (parts.1, x_reads) (before-insert low x right kept before above)

      below_more : LieBelow whole (suc x) (s ++ record { variable = x; by = right } ∷ [])
      below_more z in_more = by_test (is_solved z s) refl (sym (solved-push whole z s x right) ∙ in_more)
        where
          by_test : (b : Bool) → is_solved z s ≡ b → (is_solved z s || (z == x)) ≡ true → z < suc x
          by_test true e k = let under : z < low = below z e in let over : low ≤ x = above in omega arith
          by_test false e k = let k' : (z == x) ≡ true = rw e at k in let same : z ≡ x = eqb-true z x k' in omega arith

-- ---- what is written among the disequalities

nes-written : (facts : List Fact) (e f : Exp) → is_written (nes facts) e f ≡ is_written facts e f
nes-written [] e f = refl
nes-written (Eq left right ∷ facts) e f = nes-written facts e f
nes-written (Ne left right ∷ facts) e f =
    ap (λ t. (same_exp left e && same_exp right f) || ((same_exp left f && same_exp right e) || t)) (nes-written facts e f)

nes-same_sides : (facts : List Fact) → has_same_sides (nes facts) ≡ has_same_sides facts
nes-same_sides [] = refl
nes-same_sides (Eq left right ∷ facts) = nes-same_sides facts
nes-same_sides (Ne left right ∷ facts) = ap (λ t. same_exp left right || t) (nes-same_sides facts)

nes-sources : (facts : List Fact) (atoms : List Atom) → sources (nes facts) atoms ≡ sources facts atoms
nes-sources facts [] = refl
nes-sources facts (Points at kind fields ∷ atoms) = ap (λ rest. at ∷ rest) (nes-sources facts atoms)
nes-sources facts (Seg kind link from to ∷ atoms) =
    ap₂ (λ x xs. cons_option x xs) (rw (nes-written facts from to) refl) (nes-sources facts atoms)
nes-sources facts (Junk ∷ atoms) = nes-sources facts atoms

nes-clash : (facts : List Fact) (atoms : List Atom) → has_clash (nes facts) atoms ≡ has_clash facts atoms
nes-clash facts atoms = rw (nes-same_sides facts, nes-sources facts atoms) refl

-- ---- the fourth rule: no disequality goes

middle-written : (before : List Fact) (left right : Exp) (after : List Fact) (e f : Exp) →
    is_written (before ++ Ne left right ∷ after) e f ≡ false → is_written (Ne left right ∷ []) e f ≡ false
middle-written [] left right after e f h =
    let outer = or_parts (same_exp left e && same_exp right f) ((same_exp left f && same_exp right e) || is_written after e f) h in
    let inner = or_parts (same_exp left f && same_exp right e) (is_written after e f) outer.1 in
    or_from (same_exp left e && same_exp right f) ((same_exp left f && same_exp right e) || false) outer.0
    (or_from (same_exp left f && same_exp right e) false inner.0 refl)
middle-written (Eq a b ∷ before) left right after e f h = middle-written before left right after e f h
middle-written (Ne a b ∷ before) left right after e f h =
    let outer =
    or_parts (same_exp a e && same_exp b f) ((same_exp a f && same_exp b e) || is_written (before ++ Ne left right ∷ after) e f) h in
    middle-written before left right after e f
    (or_parts (same_exp a f && same_exp b e) (is_written (before ++ Ne left right ∷ after) e f) outer.1).1

module _ (cells : List Exp) (left right : Exp) (after : List Fact) where
  -- it is not redundant beside those behind it
  here_needed : (before : List Fact) → has_redundant cells (before ++ Ne left right ∷ after) ≡ false →
      is_redundant cells after left right ≡ false
  here_needed [] h = (or_parts (is_redundant cells after left right) (has_redundant cells after) h).0
  here_needed (Eq a b ∷ before) h = here_needed before h
  here_needed (Ne a b ∷ before) h =
      here_needed before
      (or_parts (is_redundant cells (before ++ Ne left right ∷ after) a b) (has_redundant cells (before ++ Ne left right ∷ after)) h).1

  -- and those before it don't say it either
  before_written : (before : List Fact) → has_redundant cells (before ++ Ne left right ∷ after) ≡ false →
      is_written before left right ≡ false
  before_written [] h = refl
  before_written (Eq a b ∷ before) h = before_written before h
  before_written (Ne a b ∷ before) h =
      or_from (same_exp a left && same_exp b right) ((same_exp a right && same_exp b left) || is_written before left right) pair.0
      (or_from (same_exp a right && same_exp b left) (is_written before left right)
      (or_parts (same_exp a right && same_exp b left) false pair.1).0 (before_written before parts.1))
    where
      parts : (is_redundant cells (before ++ Ne left right ∷ after) a b ≡ false)
          × (has_redundant cells (before ++ Ne left right ∷ after) ≡ false)
      parts = or_parts (is_redundant cells (before ++ Ne left right ∷ after) a b) (has_redundant cells (before ++ Ne left right ∷ after)) h

      unwritten : is_written (before ++ Ne left right ∷ after) a b ≡ false
      unwritten =
          let outer =
          or_parts (are_constants a b)
          ((is_plain cells a && is_plain cells b) || is_written (before ++ Ne left right ∷ after) a b) parts.0 in
          (or_parts (is_plain cells a && is_plain cells b) (is_written (before ++ Ne left right ∷ after) a b) outer.1).1

      pair : ((same_exp a left && same_exp b right) ≡ false) × (((same_exp a right && same_exp b left) || false) ≡ false)
      pair =
          or_parts (same_exp a left && same_exp b right) ((same_exp a right && same_exp b left) || false)
          (sym (written_one-sym a b left right) ∙ middle-written before left right after a b unwritten)

  before_needed : (before : List Fact) → has_redundant cells (before ++ Ne left right ∷ after) ≡ false →
      is_redundant cells before left right ≡ false
  before_needed before h =
      let outer =
      or_parts (are_constants left right) ((is_plain cells left && is_plain cells right) || is_written after left right)
      (here_needed before h) in
      let inner = or_parts (is_plain cells left && is_plain cells right) (is_written after left right) outer.1 in
      or_from (are_constants left right) ((is_plain cells left && is_plain cells right) || is_written before left right) outer.0
      (or_from (is_plain cells left && is_plain cells right) (is_written before left right) inner.0 (before_written before h))

needed-itself : (cells : List Exp) (facts kept : List Fact) → list_all is_disequality facts ≡ true →
    has_redundant cells (kept ++ facts) ≡ false → needed cells facts kept ≡ kept ++ facts
needed-itself cells [] kept are h = sym (append-nil kept)
needed-itself cells (Eq left right ∷ facts) kept are h = cc
needed-itself cells (Ne left right ∷ facts) kept are h =
    let grouped : (kept ++ Ne left right ∷ []) ++ facts ≡ kept ++ Ne left right ∷ facts = append_assoc kept (Ne left right ∷ []) facts in
    rw (before_needed cells left right facts kept h) (needed-itself cells facts (kept ++ Ne left right ∷ []) are (rw grouped h) ∙ grouped)

all-nes : (facts : List Fact) → list_all is_disequality (nes facts) ≡ true
all-nes [] = refl
all-nes (Eq left right ∷ facts) = all-nes facts
all-nes (Ne left right ∷ facts) = all-nes facts

-- ---- the second rule: nothing is empty

position-nowhere : {A : Type 0} (test : A → Bool) (xs : List A) → list_any test xs ≡ false → position test xs ≡ None
position-nowhere {A} test xs none = by_test (nat_lt (position_or_len test xs) (length xs)) refl
  where
    at_end : (ys : List A) → list_any test ys ≡ false → position_or_len test ys ≡ length ys
    at_end [] h = refl
    at_end (y ∷ ys) h = let parts = or_parts (test y) (list_any test ys) h in rw parts.0 (omega (arith, at_end ys parts.1))

    by_test : (b : Bool) → nat_lt (position_or_len test xs) (length xs) ≡ b → position test xs ≡ None
    by_test false e = rw e refl
    by_test true e = let under : position_or_len test xs
        < length xs = ltb-true (position_or_len test xs) (length xs) e in let end = at_end xs none in absurd (omega arith)

settle-itself : (turns : ℕ) (s : List Solved) (atoms : List Atom) → place_of_empty s atoms ≡ None →
    settle turns s atoms ≡ Some (record { solved = s; atoms = atoms })
settle-itself zero s atoms none = refl
settle-itself (suc turns) s atoms none = rw none refl

-- ---- one Junk is left

no_junk-filter : (atoms : List Atom) → list_any is_junk atoms ≡ false → filter is_other atoms ≡ atoms
no_junk-filter [] h = refl
no_junk-filter (Points at kind fields ∷ atoms) h = ap (λ rest. Points at kind fields ∷ rest) (no_junk-filter atoms h)
no_junk-filter (Seg kind link from to ∷ atoms) h = ap (λ rest. Seg kind link from to ∷ rest) (no_junk-filter atoms h)
no_junk-filter (Junk ∷ atoms) h = cc

one_junk-itself : (atoms : List Atom) → has_two_junk atoms ≡ false → one_junk atoms ≡ atoms
one_junk-itself [] h = refl
one_junk-itself (Points at kind fields ∷ atoms) h = ap (λ rest. Points at kind fields ∷ rest) (one_junk-itself atoms h)
one_junk-itself (Seg kind link from to ∷ atoms) h = ap (λ rest. Seg kind link from to ∷ rest) (one_junk-itself atoms h)
one_junk-itself (Junk ∷ atoms) h =
    ap (λ rest. Junk ∷ rest) (no_junk-filter atoms (or_parts (list_any is_junk atoms) (has_two_junk atoms) h).0)

-- ---- all together

module _ (state : SymState) (h : is_normal state ≡ true) where
  abbrev whole : List Fact
  whole = state.heap.pure

  abbrev atoms : List Atom
  atoms = state.heap.spatial

  abbrev s : List Solved
  s = solved_of state.heap.pure

  outer : (is_normal_heap state.heap ≡ true) × (list_all (is_read whole) state.locals ≡ true)
  outer = and_parts (is_normal_heap state.heap) (list_all (is_read whole) state.locals) h

  heap_parts : ((are_normal_facts state.heap && are_normal_atoms state.heap) ≡ true) × (not (has_clash whole atoms) ≡ true)
  heap_parts = and_parts (are_normal_facts state.heap && are_normal_atoms state.heap) (not (has_clash whole atoms)) outer.0

  both : (are_normal_facts state.heap ≡ true) × (are_normal_atoms state.heap ≡ true)
  both = and_parts (are_normal_facts state.heap) (are_normal_atoms state.heap) heap_parts.0

  fact_parts : ((are_in_order 0 whole && list_all (is_read_fact whole) whole) ≡ true) × (not (has_redundant (addresses atoms) whole) ≡ true)
  fact_parts = and_parts (are_in_order 0 whole && list_all (is_read_fact whole) whole) (not (has_redundant (addresses atoms) whole)) both.0

  first_facts : (are_in_order 0 whole ≡ true) × (list_all (is_read_fact whole) whole ≡ true)
  first_facts = and_parts (are_in_order 0 whole) (list_all (is_read_fact whole) whole) fact_parts.0

  atom_parts : ((list_all (is_read_atom whole) atoms && not (list_any (is_empty [] (addresses atoms)) atoms)) ≡ true)
      × (not (has_two_junk atoms) ≡ true)
  atom_parts =
      and_parts (list_all (is_read_atom whole) atoms && not (list_any (is_empty [] (addresses atoms)) atoms))
      (not (has_two_junk atoms)) both.1

  first_atoms : (list_all (is_read_atom whole) atoms ≡ true) × (not (list_any (is_empty [] (addresses atoms)) atoms) ≡ true)
  first_atoms = and_parts (list_all (is_read_atom whole) atoms) (not (list_any (is_empty [] (addresses atoms)) atoms)) atom_parts.0

  among : AreAmong whole s
  among x is = sym (solved_of-solved x whole) ∙ is

  solve_is : solve whole [] ≡ Some s
  solve_is = solve-itself whole 0 whole [] first_facts.0 first_facts.1 (λ x is. is) (λ x is. cc) (λ x is. cc)

  atoms_is : map (on_atom (read s)) atoms ≡ atoms
  atoms_is = atoms-itself whole s atoms among first_atoms.0

  none_empty : place_of_empty s atoms ≡ None
  none_empty =
      rw atoms_is (position-nowhere (is_empty s (addresses atoms)) atoms
      (any_empty-itself whole s (addresses atoms) atoms among first_atoms.0
      ∙ not-true (list_any (is_empty [] (addresses atoms)) atoms) first_atoms.1))

  facts_is : disequalities s whole ≡ nes whole
  facts_is = disequalities-itself whole s whole among first_facts.1

  clear : has_clash (nes whole) atoms ≡ false
  clear = nes-clash whole atoms ∙ not-true (has_clash whole atoms) heap_parts.1

  equations_is : equations s s [] ≡ eqs whole
  equations_is = equations-itself whole s 0 whole [] [] first_facts.0 first_facts.1 (λ x is. is) (λ x is. cc) refl tt

  pure_is : needed (addresses atoms) (nes whole) (equations s s []) ≡ whole
  pure_is =
      let ordered : eqs whole ++ nes whole ≡ whole = in_order-parts 0 whole first_facts.0 in
      rw equations_is
      (needed-itself (addresses atoms) (nes whole) (eqs whole) (all-nes whole)
      (rw ordered (not-true (has_redundant (addresses atoms) whole) fact_parts.1)) ∙ ordered)

  locals_is : map (read s) state.locals ≡ state.locals
  locals_is = map-itself whole s state.locals among outer.1

  form_is : form_of state s (nes whole) atoms ≡ state
  form_is = rw (locals_is, pure_is, one_junk-itself atoms (not-true (has_two_junk atoms) atom_parts.1)) refl

  of_parts : normal_of state s (nes whole) atoms ≡ Is state
  of_parts = rw clear (ap (λ x. Is x) form_is)

  normal-itself : normal state ≡ Is state
  normal-itself =
      ap (normal_solved state) solve_is
      ∙ (ap (normal_settled state) (settle-itself (length atoms) s atoms none_empty)
      ∙ (ap₂ (λ facts read_atoms. normal_of state s facts read_atoms) facts_is atoms_is ∙ of_parts))

pub normal_is_itself : NormalIsItself
normal_is_itself state = (normal-itself state, λ is. form_is_normal state state is)
