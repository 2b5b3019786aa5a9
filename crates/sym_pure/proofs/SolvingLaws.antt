-- What solved equations keep: where they are true, reading changes no value; and each equation read has equal sides.
use Rattle.std.specs.Prelude.{◌≡◌, ℕ, ℤ, Bool, true, false, ◌==◌, ltb, List, [], ◌∷◌, MatchOption}
use Rattle.std.proofs.Common.{refl, sym, ap, ◌∙◌}
use Rattle.std.specs.Ordering.{int_eq}
use Rattle.std.specs.declared.option.Option.{Option}
use Rattle.std.specs.declared.option.Option.TheVariants.{None, Some}
use Rattle.std.proofs.lemmas.Bool.{eqb-true, eq-eqb}
use Rattle.std.proofs.lemmas.Bool.Decides.{Decides-int_eq}
use Rattle.shape_data.specs.declared.symbolic.Exp.{Exp}
use Rattle.shape_data.specs.declared.symbolic.Exp.TheVariants.{Var, Const}
use Rattle.shape_data.specs.declared.symbolic.Fact.{Fact}
use Rattle.shape_data.specs.declared.symbolic.Fact.TheVariants.{Eq, Ne}
use Rattle.shape_data.specs.Meaning.{value, AreTrueFacts}
use Rattle.sym_pure.specs.declared.parts.Solved.{Solved}
use Rattle.sym_pure.specs.Solving.{instead, read, with_solved, with_read, with_equation, unless_clash, solve}

-- the solved equations are true
abbrev pub AreTrueSolved : (ℕ → ℤ) → List Solved → Type 0
AreTrueSolved t [] = Unit {0}
AreTrueSolved t (first ∷ later) = (t first.variable ≡ value t first.by) × AreTrueSolved t later

-- what reads the same before reads the same after
abbrev pub Extends : List Solved → List Solved → Type 0
Extends solved more = (e f : Exp) → read solved e ≡ read solved f → read more e ≡ read more f

-- each equation's sides read the same
abbrev pub AreUnified : List Solved → List Fact → Type 0
AreUnified solved [] = Unit {0}
AreUnified solved (Eq left right ∷ facts) = (read solved left ≡ read solved right) × AreUnified solved facts
AreUnified solved (Ne left right ∷ facts) = AreUnified solved facts

pub read-push : (solved : List Solved) (variable : ℕ) (by : Exp) (e : Exp) →
    read (with_solved solved variable by) e ≡ instead variable by (read solved e)
read-push [] variable by e = refl
read-push (first ∷ later) variable by e = read-push later variable by (instead first.variable first.by e)

pub read-Const : (solved : List Solved) (n : ℤ) → read solved (Const n) ≡ Const n
read-Const [] n = refl
read-Const (first ∷ later) n = read-Const later n

pub value-instead : (t : ℕ → ℤ) (variable : ℕ) (by : Exp) → t variable ≡ value t by → (e : Exp) →
    value t (instead variable by e) ≡ value t e
value-instead t variable by is_true (Const n) = refl
value-instead t variable by is_true (Var x) = by_test (x == variable) refl
  where
    by_test : (b : Bool) → (x == variable) ≡ b → value t (instead variable by (Var x)) ≡ t x
    by_test true e = rw e (sym is_true ∙ ap t (sym (eqb-true x variable e)))
    by_test false e = rw e refl

pub value-read : (t : ℕ → ℤ) (solved : List Solved) → AreTrueSolved t solved → (e : Exp) → value t (read solved e) ≡ value t e
value-read t [] h e = refl
value-read t (first ∷ later) h e =
    value-read t later h.1 (instead first.variable first.by e) ∙ value-instead t first.variable first.by h.0 e

pub AreTrueSolved-push : (t : ℕ → ℤ) (solved : List Solved) (variable : ℕ) (by : Exp) → AreTrueSolved t solved → t variable ≡ value t by →
    AreTrueSolved t (with_solved solved variable by)
AreTrueSolved-push t [] variable by h one = (one, tt)
AreTrueSolved-push t (first ∷ later) variable by h one = (h.0, AreTrueSolved-push t later variable by h.1 one)

instead-itself : (variable : ℕ) (by : Exp) → instead variable by (Var variable) ≡ by
instead-itself variable by = rw (eq-eqb variable variable refl) refl

pub instead-by : (variable : ℕ) (by : Exp) → instead variable by by ≡ by
instead-by variable (Const n) = refl
instead-by variable (Var x) = by_test (x == variable) refl
  where
    by_test : (b : Bool) → (x == variable) ≡ b → instead variable (Var x) (Var x) ≡ Var x
    by_test true e = rw e refl
    by_test false e = rw e refl

-- going on where there is no contradiction
pub unless_clash-goes : {A : Type 0} (none : Type 0) (P : List Solved → Type 0) (Q : A → Type 0) (go_on : List Solved → Option A)
    (o : Option (List Solved)) →
    MatchOption o none P → ((more : List Solved) → P more → MatchOption (go_on more) none Q) → MatchOption (unless_clash go_on o) none Q
unless_clash-goes none P Q go_on None h k = h
unless_clash-goes none P Q go_on (Some solved) h k = k solved h

-- Forwards: under an assignment in which the equation is true.
with_read-true : (t : ℕ → ℤ) (solved : List Solved) (left right : Exp) → AreTrueSolved t solved → value t left ≡ value t right →
    MatchOption (with_read solved left right) ⊥ (AreTrueSolved t)
with_read-true t solved (Const m) (Const n) h same = by_test (int_eq m n) refl
  where
    by_test : (b : Bool) → int_eq m n ≡ b → MatchOption (with_read solved (Const m) (Const n)) ⊥ (AreTrueSolved t)
    by_test true e = rw e h
    by_test false e = let f : int_eq m n ≡ true = (Decides-int_eq m n).1 same in cc
with_read-true t solved (Var x) (Const n) h same = AreTrueSolved-push t solved x (Const n) h same
with_read-true t solved (Const n) (Var x) h same = AreTrueSolved-push t solved x (Const n) h (sym same)
with_read-true t solved (Var x) (Var y) h same = by_test (x == y) refl (ltb x y) refl
  where
    by_test : (b : Bool) → (x == y) ≡ b → (d : Bool) → ltb x y ≡ d → MatchOption (with_read solved (Var x) (Var y)) ⊥ (AreTrueSolved t)
    by_test true e d f = rw e h
    by_test false e true f = rw (e, f) (AreTrueSolved-push t solved y (Var x) h (sym same))
    by_test false e false f = rw (e, f) (AreTrueSolved-push t solved x (Var y) h same)

pub with_equation-true : (t : ℕ → ℤ) (solved : List Solved) (left right : Exp) → AreTrueSolved t solved → value t left ≡ value t right →
    MatchOption (with_equation solved left right) ⊥ (AreTrueSolved t)
with_equation-true t solved left right h same =
    with_read-true t solved (read solved left) (read solved right) h
    (value-read t solved h left ∙ (same ∙ sym (value-read t solved h right)))

pub solve-true : (t : ℕ → ℤ) (facts : List Fact) (solved : List Solved) → AreTrueSolved t solved → AreTrueFacts t facts →
    MatchOption (solve facts solved) ⊥ (AreTrueSolved t)
solve-true t [] solved h facts_true = h
solve-true t (Eq left right ∷ facts) solved h facts_true =
    unless_clash-goes ⊥ (AreTrueSolved t) (AreTrueSolved t) (λ more. solve facts more) (with_equation solved left right)
    (with_equation-true t solved left right h facts_true.0)
    (λ more k. solve-true t facts more k facts_true.1)
solve-true t (Ne left right ∷ facts) solved h facts_true = solve-true t facts solved h facts_true.1

-- Backwards: each equation's sides read the same.
push-Extends : (solved : List Solved) (variable : ℕ) (by : Exp) → Extends solved (with_solved solved variable by)
push-Extends solved variable by e f same =
    read-push solved variable by e ∙ (ap (instead variable by) same ∙ sym (read-push solved variable by f))

push-unifies : (solved : List Solved) (variable : ℕ) (by a b : Exp) → read solved a ≡ Var variable → read solved b ≡ by →
    read (with_solved solved variable by) a ≡ read (with_solved solved variable by) b
push-unifies solved variable by a b is_var is_by =
    read-push solved variable by a
    ∙ (ap (instead variable by) is_var
    ∙ (instead-itself variable by ∙ sym (read-push solved variable by b ∙ (ap (instead variable by) is_by ∙ instead-by variable by))))

abbrev pub Unifies : List Solved → Exp → Exp → List Solved → Type 0
Unifies solved a b more = Extends solved more × (read more a ≡ read more b)

with_read-unifies : (solved : List Solved) (left right a b : Exp) → read solved a ≡ left → read solved b ≡ right →
    MatchOption (with_read solved left right) (Unit {0}) (Unifies solved a b)
with_read-unifies solved (Const m) (Const n) a b is_left is_right = by_test (int_eq m n) refl
  where
    by_test : (t : Bool) → int_eq m n ≡ t → MatchOption (with_read solved (Const m) (Const n)) (Unit {0}) (Unifies solved a b)
    by_test true e = rw e (λ x y h. h, is_left ∙ (ap (λ z. Const z) ((Decides-int_eq m n).0 e) ∙ sym is_right))
    by_test false e = rw e tt
with_read-unifies solved (Var x) (Const n) a b is_left is_right =
    (push-Extends solved x (Const n), push-unifies solved x (Const n) a b is_left is_right)
with_read-unifies solved (Const n) (Var x) a b is_left is_right =
    (push-Extends solved x (Const n), sym (push-unifies solved x (Const n) b a is_right is_left))
with_read-unifies solved (Var x) (Var y) a b is_left is_right = by_test (x == y) refl (ltb x y) refl
  where
    by_test : (t : Bool) → (x == y) ≡ t → (d : Bool) → ltb x y ≡ d →
        MatchOption (with_read solved (Var x) (Var y)) (Unit {0}) (Unifies solved a b)
    by_test true e d f = rw e (λ v w h. h, is_left ∙ (ap (λ z. Var z) (eqb-true x y e) ∙ sym is_right))
    by_test false e true f = rw (e, f) (push-Extends solved y (Var x), sym (push-unifies solved y (Var x) b a is_right is_left))
    by_test false e false f = rw (e, f) (push-Extends solved x (Var y), push-unifies solved x (Var y) a b is_left is_right)

pub with_equation-unifies : (solved : List Solved) (left right : Exp) →
    MatchOption (with_equation solved left right) (Unit {0}) (Unifies solved left right)
with_equation-unifies solved left right = with_read-unifies solved (read solved left) (read solved right) left right refl refl

abbrev pub Solves : List Solved → List Fact → List Solved → Type 0
Solves solved facts more = Extends solved more × AreUnified more facts

pub solve-unifies : (facts : List Fact) (solved : List Solved) → MatchOption (solve facts solved) (Unit {0}) (Solves solved facts)
solve-unifies [] solved = (λ e f h. h, tt)
solve-unifies (Eq left right ∷ facts) solved =
    unless_clash-goes (Unit {0}) (Unifies solved left right) (Solves solved (Eq left right ∷ facts)) (λ more. solve facts more)
    (with_equation solved left right) (with_equation-unifies solved left right)
    (λ more h. stronger more h (solve facts more) (solve-unifies facts more))
  where
    stronger : (more : List Solved) → Unifies solved left right more → (o : Option (List Solved)) →
        MatchOption o (Unit {0}) (Solves more facts) → MatchOption o (Unit {0}) (Solves solved (Eq left right ∷ facts))
    stronger more h None k = tt
    stronger more h (Some last) k = (λ e f same. k.0 e f (h.0 e f same), (k.0 left right h.1, k.1))
solve-unifies (Ne left right ∷ facts) solved = stronger (solve facts solved) (solve-unifies facts solved)
  where
    stronger : (o : Option (List Solved)) → MatchOption o (Unit {0}) (Solves solved facts) →
        MatchOption o (Unit {0}) (Solves solved (Ne left right ∷ facts))
    stronger None k = tt
    stronger (Some last) k = k
