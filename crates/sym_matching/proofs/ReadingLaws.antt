-- Reading through a binding that grows.
use Rattle.std.specs.Prelude.{◌≡◌, ℕ, ◌==◌, ℤ, Bool, true, false, ◌&&◌, List, [], ◌∷◌, ◌++◌}
use Rattle.std.proofs.Common.{refl, sym, ap, ◌∙◌}
use Rattle.std.specs.declared.option.Option.{Option}
use Rattle.std.specs.declared.option.Option.TheVariants.{None, Some}
use Rattle.std.proofs.lemmas.Bool.{eqb-true, eq-eqb, and_parts}
use Rattle.shape_data.specs.declared.symbolic.Exp.{Exp}
use Rattle.shape_data.specs.declared.symbolic.Exp.TheVariants.{Var, Const}
use Rattle.shape_data.specs.declared.symbolic.Fact.{Fact}
use Rattle.shape_data.specs.declared.symbolic.Fact.TheVariants.{Eq, Ne}
use Rattle.shape_data.specs.Meaning.{value, AreTrueFacts}
use Rattle.sym_parts.specs.Laws.Fresh.{is_one_of}
use Rattle.sym_pure.specs.Equations.{read_through, solved}
use Rattle.sym_matching.specs.Laws.{Keeps, StaysBound}
use Rattle.sym_matching.specs.Reading.{bound_to, bound_exp, read, is_none, is_unbound, through}

pub value-through : (binding : List (ℕ × Exp)) (s : ℕ → ℤ) (e : Exp) → value (through binding s) e ≡ value s (bound_exp binding e)
value-through binding s (Var x) = refl
value-through binding s (Const n) = refl

value-solved : (facts : List Fact) (s : ℕ → ℤ) (x : ℕ) → AreTrueFacts s facts → value s (solved facts x) ≡ s x
value-solved [] s x holds = refl
value-solved (Eq (Var y) e ∷ facts) s x holds = by_test (value-solved facts s x holds.1) (y == x) refl
  where
    by_test : value s (solved facts x) ≡ s x → (b : Bool) → (y == x) ≡ b → value s (solved (Eq (Var y) e ∷ facts) x) ≡ s x
    by_test later true f =
        let equal : s y ≡ value s e = holds.0 in
        rw f (sym equal ∙ ap s (eqb-true y x f))
    by_test later false f = rw f later
value-solved (Eq (Const n) e ∷ facts) s x holds = value-solved facts s x holds.1
value-solved (Ne e f ∷ facts) s x holds = value-solved facts s x holds.1

pub value-read_through : (facts : List Fact) (s : ℕ → ℤ) (e : Exp) → AreTrueFacts s facts → value s (read_through facts e) ≡ value s e
value-read_through facts s (Var x) holds = value-solved facts s x holds
value-read_through facts s (Const n) holds = refl

pub Keeps-refl : (flexible : List ℕ) (now : List (ℕ × Exp)) → Keeps flexible now now
Keeps-refl flexible now e h = (h, refl)

pub Keeps-trans : (flexible : List ℕ) (now later last : List (ℕ × Exp)) → Keeps flexible now later → Keeps flexible later last →
    Keeps flexible now last
Keeps-trans flexible now later last first second e h = ((second e (first e h).0).0, (second e (first e h).0).1 ∙ (first e h).1)

bound_some : (flexible : List ℕ) (bound : List (ℕ × Exp)) (x : ℕ) (e : Exp) → bound_to bound x ≡ Some e →
    is_unbound flexible bound (Var x) ≡ false
bound_some flexible bound x e is = by_test (is_one_of flexible x)
  where
    by_test : (b : Bool) → (b && is_none (bound_to bound x)) ≡ false
    by_test true = rw is refl
    by_test false = refl

-- what was bound is determined, so it stays
pub Keeps-stays : (flexible : List ℕ) (bound binding : List (ℕ × Exp)) → Keeps flexible bound binding → StaysBound bound binding
Keeps-stays flexible bound binding keeps x e is =
    let read : bound_exp bound (Var x) ≡ e = rw is refl in
    (keeps (Var x) (bound_some flexible bound x e is)).1 ∙ read

-- what is determined now has the same value under each later binding
pub read_later : (facts : List Fact) (flexible : List ℕ) (now later : List (ℕ × Exp)) (u : ℕ → ℤ) (e : Exp) →
    is_unbound flexible now e ≡ false → Keeps flexible now later → AreTrueFacts u facts →
    value u (read facts now e) ≡ value (through later u) e
read_later facts flexible now later u e known keeps true_facts =
    value-read_through facts u (bound_exp now e) true_facts ∙ ap (value u) (sym (keeps e known).1) ∙ sym (value-through later u e)

-- ---- one more variable

pub bound_to-push : (binding : List (ℕ × Exp)) (bound : ℕ × Exp) (x : ℕ) (e : Exp) → bound_to binding x ≡ Some e →
    bound_to (binding ++ bound ∷ []) x ≡ Some e
bound_to-push [] bound x e h = cc
bound_to-push (first ∷ binding) bound x e h = by_test (bound_to-push binding bound x e) (first.0 == x) refl
  where
    by_test : (bound_to binding x ≡ Some e → bound_to (binding ++ bound ∷ []) x ≡ Some e) → (b : Bool) → (first.0 == x) ≡ b →
        bound_to (first ∷ binding ++ bound ∷ []) x ≡ Some e
    by_test later true f = let here : Some first.1 ≡ Some e = rw f at h in rw f here
    by_test later false f = let rest : bound_to binding x ≡ Some e = rw f at h in rw f (later rest)

pub bound_to-new : (binding : List (ℕ × Exp)) (bound : ℕ × Exp) (x : ℕ) → bound_to binding x ≡ None → (bound.0 == x) ≡ true →
    bound_to (binding ++ bound ∷ []) x ≡ Some bound.1
bound_to-new [] bound x h is = rw is refl
bound_to-new (first ∷ binding) bound x h is = by_test (bound_to-new binding bound x) (first.0 == x) refl
  where
    by_test : (bound_to binding x ≡ None → (bound.0 == x) ≡ true → bound_to (binding ++ bound ∷ []) x ≡ Some bound.1) → (b : Bool) →
        (first.0 == x) ≡ b → bound_to (first ∷ binding ++ bound ∷ []) x ≡ Some bound.1
    by_test later true f = let here : Some first.1 ≡ None = rw f at h in cc
    by_test later false f = let rest : bound_to binding x ≡ None = rw f at h in rw f (later rest is)

bound_to-other : (binding : List (ℕ × Exp)) (bound : ℕ × Exp) (x : ℕ) → bound_to binding x ≡ None → (bound.0 == x) ≡ false →
    bound_to (binding ++ bound ∷ []) x ≡ None
bound_to-other [] bound x h is = rw is refl
bound_to-other (first ∷ binding) bound x h is = by_test (bound_to-other binding bound x) (first.0 == x) refl
  where
    by_test : (bound_to binding x ≡ None → (bound.0 == x) ≡ false → bound_to (binding ++ bound ∷ []) x ≡ None) → (b : Bool) →
        (first.0 == x) ≡ b → bound_to (first ∷ binding ++ bound ∷ []) x ≡ None
    by_test later true f = let here : Some first.1 ≡ None = rw f at h in cc
    by_test later false f = let rest : bound_to binding x ≡ None = rw f at h in rw f (later rest is)

pub none_of : (o : Option Exp) → is_none o ≡ true → o ≡ None
none_of None h = refl
none_of (Some e) h = cc

-- what a variable is bound to is what it reads as, and nothing else changes
pub Keeps-bind : (flexible : List ℕ) (binding : List (ℕ × Exp)) (x : ℕ) (f : Exp) → is_unbound flexible binding (Var x) ≡ true →
    Keeps flexible binding (binding ++ (x, f) ∷ []) × (is_unbound flexible (binding ++ (x, f) ∷ []) (Var x) ≡ false)
    × (bound_exp (binding ++ (x, f) ∷ []) (Var x) ≡ f)
Keeps-bind flexible binding x f unbound = (keeps, rw new and_false, rw new refl)
  where
    parts : (is_one_of flexible x ≡ true) × (is_none (bound_to binding x) ≡ true)
    parts = and_parts (is_one_of flexible x) (is_none (bound_to binding x)) unbound

    new : bound_to (binding ++ (x, f) ∷ []) x ≡ Some f
    new = bound_to-new binding (x, f) x (none_of (bound_to binding x) parts.1) (eq-eqb x x refl)

    and_false : (is_one_of flexible x && false) ≡ false
    and_false = rw parts.0 refl

    at_variable : (y : ℕ) (o : Option Exp) → bound_to binding y ≡ o → is_unbound flexible binding (Var y) ≡ false → (d : Bool) →
        is_one_of flexible y ≡ d → (b : Bool) → (x == y) ≡ b →
        (is_unbound flexible (binding ++ (x, f) ∷ []) (Var y) ≡ false)
        × (bound_exp (binding ++ (x, f) ∷ []) (Var y) ≡ bound_exp binding (Var y))
    at_variable y (Some g) e h true g' b same =
        let still : bound_to (binding ++ (x, f) ∷ []) y ≡ Some g = bound_to-push binding (x, f) y g e in
        (rw (still, g') refl, rw (still, e) refl)
    at_variable y (Some g) e h false g' b same =
        let still : bound_to (binding ++ (x, f) ∷ []) y ≡ Some g = bound_to-push binding (x, f) y g e in
        (rw (still, g') refl, rw (still, e) refl)
    at_variable y None e h true g' b same = let bad : true ≡ false = rw (e, g') at h in cc
    at_variable y None e h false g' true same =
        let one : x ≡ y = eqb-true x y same in
        let is : is_one_of flexible y ≡ true = rw (← one) parts.0 in
        cc
    at_variable y None e h false g' false same =
        let still : bound_to (binding ++ (x, f) ∷ []) y ≡ None = bound_to-other binding (x, f) y e same in
        (rw (still, g') refl, rw (still, e) refl)

    keeps : Keeps flexible binding (binding ++ (x, f) ∷ [])
    keeps (Var y) h = at_variable y (bound_to binding y) refl h (is_one_of flexible y) refl (x == y) refl
    keeps (Const n) h = (refl, refl)
