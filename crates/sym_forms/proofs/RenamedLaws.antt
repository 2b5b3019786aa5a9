-- A normal heap with other numbers for its variables, no two the same, is normal where its equations stay as they are.
use Rattle.std.specs.Prelude.{◌≡◌, ℕ, suc, ◌<◌, pos, Bool, true, false, not, ◌==◌, ◌&&◌, ◌||◌, if◌then◌else◌, ltb, leb, List, [], ◌∷◌, map}
use Rattle.std.specs.List.{cons_option, list_all, list_any}
use Rattle.std.specs.declared.option.Option.{Option}
use Rattle.std.specs.declared.option.Option.TheVariants.{None, Some}
use Rattle.std.proofs.Common.{refl, sym, ap, ap₂, ◌∙◌, arith}
use Rattle.std.proofs.lemmas.Bool.{and_from, and_parts, eq-eqb, eqb-true, ltb-true, ne_eqb, eqb-false}
use Rattle.shape_data.specs.declared.symbolic.Atom.{Atom}
use Rattle.shape_data.specs.declared.symbolic.Atom.TheVariants.{Points, Seg, Junk}
use Rattle.shape_data.specs.declared.symbolic.Exp.{Exp}
use Rattle.shape_data.specs.declared.symbolic.Exp.TheVariants.{Var, Const}
use Rattle.shape_data.specs.declared.symbolic.Fact.{Fact}
use Rattle.shape_data.specs.declared.symbolic.Fact.TheVariants.{Eq, Ne}
use Rattle.shape_data.specs.declared.symbolic.SymState.{SymState}
use Rattle.sym_parts.specs.Laws.Addresses.{address_of, addresses}
use Rattle.sym_parts.specs.Laws.Expressions.{has_double, is_among, same_exp}
use Rattle.sym_parts.specs.Laws.Junks.{is_junk}
use Rattle.sym_parts.specs.Laws.Mapped.{on_atom, on_fact, on_heap, on_state, renamed}
use Rattle.sym_pure.specs.Contradictions.{has_clash, has_same_sides}
use Rattle.sym_pure.specs.Emptying.{is_empty, is_plain}
use Rattle.sym_pure.specs.IsNormal.{are_in_order, are_normal_atoms, are_normal_facts, has_redundant, has_two_junk, is_below, is_disequality}
use Rattle.sym_pure.specs.IsNormal.{is_normal, is_normal_heap, is_read, is_read_atom, is_read_fact, is_solved_in}
use Rattle.sym_pure.specs.Redundancy.{are_constants, is_redundant}
use Rattle.sym_pure.specs.Sources.{are_unequal_constants, do_ends_differ, is_written, source_of, sources}

-- the function used on what there is
abbrev on_some : (Exp → Exp) → Option Exp → Option Exp
on_some f None = None
on_some f (Some e) = Some (f e)

-- a test of mapped elements
any-map : {A : Type 0} (f : A → A) (test other : A → Bool) → ((x : A) → test (f x) ≡ other x) → (xs : List A) →
    list_any test (map f xs) ≡ list_any other xs
any-map f test other agree [] = refl
any-map f test other agree (x ∷ xs) = ap₂ (λ b d. b || d) (agree x) (any-map f test other agree xs)

all-map : {A : Type 0} (f : A → A) (test other : A → Bool) → ((x : A) → test (f x) ≡ other x) → (xs : List A) →
    list_all test (map f xs) ≡ list_all other xs
all-map f test other agree [] = refl
all-map f test other agree (x ∷ xs) = ap₂ (λ b d. b && d) (agree x) (all-map f test other agree xs)

-- the equations are of variables below the limit
abbrev pub AreOfLow : ℕ → List Fact → Type 0
AreOfLow limit [] = Unit {0}
AreOfLow limit (Eq (Var x) right ∷ facts) = (x < limit) × AreOfLow limit facts
AreOfLow limit (Eq (Const n) right ∷ facts) = AreOfLow limit facts
AreOfLow limit (Ne left right ∷ facts) = AreOfLow limit facts

module _ (number back : ℕ → ℕ) (undone : (x : ℕ) → back (number x) ≡ x) where
  number-same : (x y : ℕ) → (number x == number y) ≡ (x == y)
  number-same x y = by_test (x == y) refl
    where
      by_test : (b : Bool) → (x == y) ≡ b → (number x == number y) ≡ (x == y)
      by_test true e = let same : x ≡ y = eqb-true x y e in eq-eqb (number x) (number y) (ap number same) ∙ sym e
      by_test false e = ne_eqb (number x) (number y) (λ same. eqb-false x y e (sym (undone x) ∙ (ap back same ∙ undone y))) ∙ sym e

  exp-same : (e g : Exp) → same_exp (renamed number e) (renamed number g) ≡ same_exp e g
  exp-same (Var x) (Var y) = number-same x y
  exp-same (Var x) (Const n) = refl
  exp-same (Const m) (Var y) = refl
  exp-same (Const m) (Const n) = refl

  null-same : (e : Exp) → same_exp (renamed number e) (Const (pos 0)) ≡ same_exp e (Const (pos 0))
  null-same e = exp-same e (Const (pos 0))

  among-same : (e : Exp) (es : List Exp) → is_among (renamed number e) (map (renamed number) es) ≡ is_among e es
  among-same e [] = refl
  among-same e (g ∷ gs) = ap₂ (λ b d. b || d) (exp-same e g) (among-same e gs)

  double-same : (es : List Exp) → has_double (map (renamed number) es) ≡ has_double es
  double-same [] = refl
  double-same (e ∷ es) = ap₂ (λ b d. b || d) (among-same e es) (double-same es)

  unequal-same : (e g : Exp) → are_unequal_constants (renamed number e) (renamed number g) ≡ are_unequal_constants e g
  unequal-same (Var x) (Var y) = refl
  unequal-same (Var x) (Const n) = refl
  unequal-same (Const m) (Var y) = refl
  unequal-same (Const m) (Const n) = refl

  constants-same : (e g : Exp) → are_constants (renamed number e) (renamed number g) ≡ are_constants e g
  constants-same (Var x) (Var y) = refl
  constants-same (Var x) (Const n) = refl
  constants-same (Const m) (Var y) = refl
  constants-same (Const m) (Const n) = refl

  written-same : (facts : List Fact) (e g : Exp) →
      is_written (map (on_fact (renamed number)) facts) (renamed number e) (renamed number g) ≡ is_written facts e g
  written-same [] e g = refl
  written-same (Eq left right ∷ facts) e g = written-same facts e g
  written-same (Ne left right ∷ facts) e g =
      ap₂ (λ b d. b || d) (ap₂ (λ b d. b && d) (exp-same left e) (exp-same right g))
      (ap₂ (λ b d. b || d) (ap₂ (λ b d. b && d) (exp-same left g) (exp-same right e)) (written-same facts e g))

  differ-same : (facts : List Fact) (from to : Exp) →
      do_ends_differ (map (on_fact (renamed number)) facts) (renamed number from) (renamed number to) ≡ do_ends_differ facts from to
  differ-same facts from to = ap₂ (λ b d. b || d) (unequal-same from to) (written-same facts from to)

  if-some : (b : Bool) (e : Exp) → (if b then Some (renamed number e) else None) ≡ on_some (renamed number) (if b then Some e else None)
  if-some true e = refl
  if-some false e = refl

  source-same : (facts : List Fact) (atom : Atom) →
      source_of (map (on_fact (renamed number)) facts) (on_atom (renamed number) atom) ≡ on_some (renamed number) (source_of facts atom)
  source-same facts (Points at kind fields) = refl
  source-same facts (Seg kind link from to) = ap (λ (b : Bool). if b then Some (renamed number from) else None) (differ-same facts from to)
      ∙ if-some (do_ends_differ facts from to) from
  source-same facts Junk = refl

  cons-same : (o : Option Exp) (es : List Exp) →
      cons_option (on_some (renamed number) o) (map (renamed number) es) ≡ map (renamed number) (cons_option o es)
  cons-same None es = refl
  cons-same (Some e) es = refl

  sources-same : (facts : List Fact) (atoms : List Atom) →
      sources (map (on_fact (renamed number)) facts) (map (on_atom (renamed number)) atoms) ≡ map (renamed number) (sources facts atoms)
  sources-same facts [] = refl
  sources-same facts (atom ∷ atoms) = ap₂ (λ o es. cons_option o es) (source-same facts atom) (sources-same facts atoms)
      ∙ cons-same (source_of facts atom) (sources facts atoms)

  address-same : (atom : Atom) → address_of (on_atom (renamed number) atom) ≡ on_some (renamed number) (address_of atom)
  address-same (Points at kind fields) = refl
  address-same (Seg kind link from to) = refl
  address-same Junk = refl

  addresses-same : (atoms : List Atom) → addresses (map (on_atom (renamed number)) atoms) ≡ map (renamed number) (addresses atoms)
  addresses-same [] = refl
  addresses-same (atom ∷ atoms) =
      ap₂ (λ o es. cons_option o es) (address-same atom) (addresses-same atoms) ∙ cons-same (address_of atom) (addresses atoms)

  same_sides-same : (facts : List Fact) → has_same_sides (map (on_fact (renamed number)) facts) ≡ has_same_sides facts
  same_sides-same [] = refl
  same_sides-same (Eq left right ∷ facts) = same_sides-same facts
  same_sides-same (Ne left right ∷ facts) = ap₂ (λ b d. b || d) (exp-same left right) (same_sides-same facts)

  clash-same : (facts : List Fact) (atoms : List Atom) →
      has_clash (map (on_fact (renamed number)) facts) (map (on_atom (renamed number)) atoms) ≡ has_clash facts atoms
  clash-same facts atoms =
      ap₂ (λ b d. b || d) (same_sides-same facts)
      (ap (λ es. is_among (Const (pos 0)) es || has_double es) (sources-same facts atoms)
      ∙ ap₂ (λ b d. b || d) (among-same (Const (pos 0)) (sources facts atoms)) (double-same (sources facts atoms)))

  plain-same : (atoms : List Atom) (e : Exp) →
      is_plain (addresses (map (on_atom (renamed number)) atoms)) (renamed number e) ≡ is_plain (addresses atoms) e
  plain-same atoms e =
      ap₂ (λ b d. b || d) (null-same e) (ap (λ es. is_among (renamed number e) es) (addresses-same atoms) ∙ among-same e (addresses atoms))

  redundant-same : (atoms : List Atom) (kept : List Fact) (left right : Exp) →
      is_redundant (addresses (map (on_atom (renamed number)) atoms)) (map (on_fact (renamed number)) kept) (renamed number left)
      (renamed number right) ≡ is_redundant (addresses atoms) kept left right
  redundant-same atoms kept left right =
      ap₂ (λ b d. b || d) (constants-same left right)
      (ap₂ (λ b d. b || d) (ap₂ (λ b d. b && d) (plain-same atoms left) (plain-same atoms right)) (written-same kept left right))

  has_redundant-same : (atoms : List Atom) (facts : List Fact) →
      has_redundant (addresses (map (on_atom (renamed number)) atoms)) (map (on_fact (renamed number)) facts)
      ≡ has_redundant (addresses atoms) facts
  has_redundant-same atoms [] = refl
  has_redundant-same atoms (Eq left right ∷ facts) = has_redundant-same atoms facts
  has_redundant-same atoms (Ne left right ∷ facts) =
      ap₂ (λ b d. b || d) (redundant-same atoms facts left right) (has_redundant-same atoms facts)

  empty-same : (atoms : List Atom) (atom : Atom) →
      is_empty [] (addresses (map (on_atom (renamed number)) atoms)) (on_atom (renamed number) atom) ≡ is_empty [] (addresses atoms) atom
  empty-same atoms (Points at kind fields) = refl
  empty-same atoms (Seg kind link from to) = plain-same atoms from
  empty-same atoms Junk = refl

  junk-same : (atom : Atom) → is_junk (on_atom (renamed number) atom) ≡ is_junk atom
  junk-same (Points at kind fields) = refl
  junk-same (Seg kind link from to) = refl
  junk-same Junk = refl

  two_junk-same : (atoms : List Atom) → has_two_junk (map (on_atom (renamed number)) atoms) ≡ has_two_junk atoms
  two_junk-same [] = refl
  two_junk-same (atom ∷ atoms) =
      ap₂ (λ b d. b || d) (ap₂ (λ b d. b && d) (junk-same atom) (any-map (on_atom (renamed number)) is_junk is_junk junk-same atoms))
      (two_junk-same atoms)

  solved-same : (facts : List Fact) (x : ℕ) → is_solved_in (map (on_fact (renamed number)) facts) (number x) ≡ is_solved_in facts x
  solved-same [] x = refl
  solved-same (Eq (Var y) right ∷ facts) x = ap₂ (λ b d. b || d) (number-same x y) (solved-same facts x)
  solved-same (Eq (Const n) right ∷ facts) x = solved-same facts x
  solved-same (Ne left right ∷ facts) x = solved-same facts x

  read-same : (facts : List Fact) (e : Exp) → is_read (map (on_fact (renamed number)) facts) (renamed number e) ≡ is_read facts e
  read-same facts (Var x) = ap not (solved-same facts x)
  read-same facts (Const n) = refl

  reads-same : (facts : List Fact) (es : List Exp) →
      list_all (is_read (map (on_fact (renamed number)) facts)) (map (renamed number) es) ≡ list_all (is_read facts) es
  reads-same facts es = all-map (renamed number) (is_read (map (on_fact (renamed number)) facts)) (is_read facts) (read-same facts) es

  read_fact-same : (facts : List Fact) (fact : Fact) →
      is_read_fact (map (on_fact (renamed number)) facts) (on_fact (renamed number) fact) ≡ is_read_fact facts fact
  read_fact-same facts (Eq left right) = read-same facts right
  read_fact-same facts (Ne left right) = ap₂ (λ b d. b && d) (read-same facts left) (read-same facts right)

  read_atom-same : (facts : List Fact) (atom : Atom) →
      is_read_atom (map (on_fact (renamed number)) facts) (on_atom (renamed number) atom) ≡ is_read_atom facts atom
  read_atom-same facts (Points at kind fields) = ap₂ (λ b d. b && d) (read-same facts at) (reads-same facts fields)
  read_atom-same facts (Seg kind link from to) = ap₂ (λ b d. b && d) (read-same facts from) (read-same facts to)
  read_atom-same facts Junk = refl

  diseq-same : (fact : Fact) → is_disequality (on_fact (renamed number) fact) ≡ is_disequality fact
  diseq-same (Eq left right) = refl
  diseq-same (Ne left right) = refl

  -- ---- the equations, all of whose variables are below a limit, stay as they are
  module _ (limit : ℕ) (keeps : (x : ℕ) → x < limit → number x ≡ x) where
    below-same : (x : ℕ) → x < limit → (e : Exp) → is_below x e ≡ true → is_below x (renamed number e) ≡ true
    below-same x low (Var y) h = let under : y < x = ltb-true y x h in rw (keeps y (omega (arith, under, low))) h
    below-same x low (Const n) h = refl

    order-same : (facts : List Fact) (low : ℕ) → AreOfLow limit facts → are_in_order low facts ≡ true →
        are_in_order low (map (on_fact (renamed number)) facts) ≡ true
    order-same [] low are h = refl
    order-same (Eq (Var x) right ∷ facts) low are h =
        let outer = and_parts (leb low x && ltb x 65536 && is_below x right) (are_in_order (suc x) facts) h in
        let inner = and_parts (leb low x && ltb x 65536) (is_below x right) outer.0 in
        let first : (leb low (number x) && ltb (number x) 65536) ≡ true = rw (keeps x are.0) inner.0 in
        let below : is_below (number x) (renamed number right) ≡ true = rw (keeps x are.0) (below-same x are.0 right inner.1) in
        let rest : are_in_order (suc (number x)) (map (on_fact (renamed number)) facts) ≡ true =
        rw (keeps x are.0) (order-same facts (suc x) are.1 outer.1) in
        and_from (leb low (number x) && ltb (number x) 65536 && is_below (number x) (renamed number right))
        (are_in_order (suc (number x)) (map (on_fact (renamed number)) facts))
        (and_from (leb low (number x) && ltb (number x) 65536) (is_below (number x) (renamed number right)) first below) rest
    order-same (Eq (Const n) right ∷ facts) low are h = cc
    order-same (Ne left right ∷ facts) low are h = all-map (on_fact (renamed number)) is_disequality is_disequality diseq-same facts ∙ h

    pub renamed-normal : (state : SymState) → AreOfLow limit state.heap.pure → is_normal state ≡ true →
        is_normal (on_state (renamed number) state) ≡ true
    renamed-normal state are h =
        let parts = and_parts (is_normal_heap state.heap) (list_all (is_read state.heap.pure) state.locals) h in
        let heap = and_parts (facts && spatial) (not (has_clash state.heap.pure state.heap.spatial)) parts.0 in
        let both = and_parts facts spatial heap.0 in
        let three =
        and_parts (are_in_order 0 state.heap.pure && list_all (is_read_fact state.heap.pure) state.heap.pure)
        (not (has_redundant (addresses state.heap.spatial) state.heap.pure)) both.0 in
        let two = and_parts (are_in_order 0 state.heap.pure) (list_all (is_read_fact state.heap.pure) state.heap.pure) three.0 in
        let new_facts : (are_in_order 0 pure && list_all (is_read_fact pure) pure && not (has_redundant (addresses atoms) pure)) ≡ true =
        and_from (are_in_order 0 pure && list_all (is_read_fact pure) pure) (not (has_redundant (addresses atoms) pure))
        (and_from (are_in_order 0 pure) (list_all (is_read_fact pure) pure) (order-same state.heap.pure 0 are two.0)
        (all-map (on_fact (renamed number)) (is_read_fact pure) (is_read_fact state.heap.pure)
        (read_fact-same state.heap.pure) state.heap.pure ∙ two.1))
        (ap not (has_redundant-same state.heap.spatial state.heap.pure) ∙ three.1) in
        let new_atoms : (list_all (is_read_atom pure) atoms && not (list_any (is_empty [] (addresses atoms)) atoms)
        && not (has_two_junk atoms)) ≡ true =
        ap₂ (λ b d. b && not d)
        (ap₂ (λ b d. b && not d)
        (all-map (on_atom (renamed number)) (is_read_atom pure) (is_read_atom state.heap.pure)
        (read_atom-same state.heap.pure) state.heap.spatial)
        (any-map (on_atom (renamed number)) (is_empty [] (addresses atoms)) (is_empty [] (addresses state.heap.spatial))
        (empty-same state.heap.spatial) state.heap.spatial)) (two_junk-same state.heap.spatial) ∙ both.1 in
        and_from (is_normal_heap (on_heap (renamed number) state.heap)) (list_all (is_read pure) (map (renamed number) state.locals))
        (and_from (are_normal_facts (on_heap (renamed number) state.heap) && are_normal_atoms (on_heap (renamed number) state.heap))
        (not (has_clash pure atoms))
        (and_from (are_normal_facts (on_heap (renamed number) state.heap))
        (are_normal_atoms (on_heap (renamed number) state.heap)) new_facts new_atoms)
        (ap not (clash-same state.heap.pure state.heap.spatial) ∙ heap.1))
        (reads-same state.heap.pure state.locals ∙ parts.1)
      where
        pure : List Fact
        pure = map (on_fact (renamed number)) state.heap.pure

        atoms : List Atom
        atoms = map (on_atom (renamed number)) state.heap.spatial

        facts : Bool
        facts = are_normal_facts state.heap

        spatial : Bool
        spatial = are_normal_atoms state.heap

-- the equations of facts in order are of logical variables
diseqs-low : (facts : List Fact) → list_all is_disequality facts ≡ true → AreOfLow 65536 facts
diseqs-low [] h = tt
diseqs-low (Eq left right ∷ facts) h = cc
diseqs-low (Ne left right ∷ facts) h = diseqs-low facts h

pub order-low : (facts : List Fact) (low : ℕ) → are_in_order low facts ≡ true → AreOfLow 65536 facts
order-low [] low h = tt
order-low (Eq (Var x) right ∷ facts) low h =
    let outer = and_parts (leb low x && ltb x 65536 && is_below x right) (are_in_order (suc x) facts) h in
    let inner = and_parts (leb low x && ltb x 65536) (is_below x right) outer.0 in
    (ltb-true x 65536 (and_parts (leb low x) (ltb x 65536) inner.0).1, order-low facts (suc x) outer.1)
order-low (Eq (Const n) right ∷ facts) low h = cc
order-low (Ne left right ∷ facts) low h = diseqs-low facts h
