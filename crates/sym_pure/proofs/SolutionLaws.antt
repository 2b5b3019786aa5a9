-- What solved equations are: each variable is solved once, for something below it, and what is read is read no further;
-- and the second rule comes to its end.
use Rattle.std.specs.Prelude.{◌≡◌, ℕ, zero, suc, ◌<◌, ◌≤◌, Bool, true, false, ◌==◌, ltb, List, [], ◌∷◌, length, MatchOption}
use Rattle.std.proofs.Common.{refl, sym, arith}
use Rattle.std.specs.List.{remove}
use Rattle.std.specs.Ordering.{int_eq}
use Rattle.std.specs.declared.option.Option.{Option}
use Rattle.std.specs.declared.option.Option.TheVariants.{None, Some}
use Rattle.std.proofs.lemmas.Bool.{eqb-true, eq-eqb, ltb-true, ltb-false, lt-ltb, or_parts}
use Rattle.std.proofs.lemmas.Bool.Decides.{nat_tests}
use Rattle.shape_data.specs.declared.symbolic.Atom.{Atom}
use Rattle.shape_data.specs.declared.symbolic.Atom.TheVariants.{Seg}
use Rattle.shape_data.specs.declared.symbolic.Exp.{Exp}
use Rattle.shape_data.specs.declared.symbolic.Exp.TheVariants.{Var, Const}
use Rattle.shape_data.specs.declared.symbolic.Fact.{Fact}
use Rattle.shape_data.specs.declared.symbolic.Fact.TheVariants.{Eq, Ne}
use Rattle.sym_pure.specs.declared.parts.Settled.{Settled}
use Rattle.sym_pure.specs.declared.parts.Solved.{Solved}
use Rattle.sym_pure.specs.Emptying.{place_of_empty, settle_at, settle}
use Rattle.sym_pure.specs.IsNormal.{is_below}
use Rattle.sym_pure.specs.Solving.{instead, read, with_solved, with_read, with_equation, solve}
use Rattle.sym_pure.proofs.EmptyingLaws.{IsEmptied, place_of_empty-is}
use Rattle.sym_pure.proofs.EquationsLaws.{is_solved}
use Rattle.sym_pure.proofs.PartsLaws.{remove-shorter}
use Rattle.sym_pure.proofs.SolvingLaws.{read-push, instead-by, unless_clash-goes}

-- what is read is read no further
abbrev pub IsClean : List Solved → Type 0
IsClean solved = (e : Exp) → read solved (read solved e) ≡ read solved e

-- each is solved for something below it
abbrev pub AreLower : List Solved → Type 0
AreLower [] = Unit {0}
AreLower (first ∷ later) = (is_below first.variable first.by ≡ true) × AreLower later

-- no variable is solved twice
abbrev pub AreDistinct : List Solved → Type 0
AreDistinct [] = Unit {0}
AreDistinct (first ∷ later) = (is_solved first.variable later ≡ false) × AreDistinct later

pub record IsSolution (solved : List Solved) : Type 0 where
  pub clean : IsClean solved
  pub lower : AreLower solved
  pub distinct : AreDistinct solved

-- ---- reading lowers

below-through : (x y : ℕ) (e : Exp) → ltb y x ≡ true → is_below y e ≡ true → is_below x e ≡ true
below-through x y (Var z) yx zy = lt-ltb z x (let a : y < x = ltb-true y x yx in let b : z < y = ltb-true z y zy in omega arith)
below-through x y (Const n) yx h = refl

instead-below : (x variable : ℕ) (by e : Exp) → is_below variable by ≡ true → is_below x e ≡ true →
    is_below x (instead variable by e) ≡ true
instead-below x variable by (Const n) lower h = refl
instead-below x variable by (Var y) lower h = by_test (y == variable) refl
  where
    by_test : (b : Bool) → (y == variable) ≡ b → is_below x (instead variable by (Var y)) ≡ true
    by_test true e = let same : y ≡ variable = eqb-true y variable e in rw e (below-through x variable by (rw same at h) lower)
    by_test false e = rw e h

pub read-below : (x : ℕ) (solved : List Solved) (e : Exp) → AreLower solved → is_below x e ≡ true → is_below x (read solved e) ≡ true
read-below x [] e lower h = h
read-below x (first ∷ later) e lower h =
    read-below x later (instead first.variable first.by e) lower.1 (instead-below x first.variable first.by e lower.0 h)

-- a solved variable reads as something below it
pub solved-below : (x : ℕ) (solved : List Solved) → AreLower solved → is_solved x solved ≡ true → is_below x (read solved (Var x)) ≡ true
solved-below x [] lower is = cc
solved-below x (first ∷ later) lower is = by_test (x == first.variable) refl is (λ k. solved-below x later lower.1 k)
  where
    by_test : (b : Bool) → (x == first.variable) ≡ b → is_solved x (first ∷ later) ≡ true →
        (is_solved x later ≡ true → is_below x (read later (Var x)) ≡ true) → is_below x (read (first ∷ later) (Var x)) ≡ true
    by_test true e k go_on =
        let same : x ≡ first.variable = eqb-true x first.variable e in
        rw e (read-below x later first.by lower.1 (rw same lower.0))
    by_test false e k go_on = let k' : is_solved x later ≡ true = rw e at k in rw e (go_on k')

-- so what reads as itself is not solved
pub itself-unsolved : (x : ℕ) (solved : List Solved) → AreLower solved → read solved (Var x) ≡ Var x → is_solved x solved ≡ false
itself-unsolved x solved lower itself = by_test (is_solved x solved) refl
  where
    by_test : (b : Bool) → is_solved x solved ≡ b → is_solved x solved ≡ false
    by_test false e = e
    by_test true e =
        let below : is_below x (Var x) ≡ true = rw itself at (solved-below x solved lower e) in
        let wrong : x < x = ltb-true x x below in
        absurd (omega arith)

-- ---- one solved equation more

push-clean : (solved : List Solved) (variable : ℕ) (by : Exp) → IsClean solved → read solved by ≡ by →
    IsClean (with_solved solved variable by)
push-clean solved variable by clean by_read e =
    let outer : read (with_solved solved variable by) e ≡ instead variable by (read solved e) = read-push solved variable by e in
    rw (outer, read-push solved variable by (instead variable by (read solved e))) (by_exp (read solved e) (clean e))
  where
    by_exp : (r : Exp) → read solved r ≡ r → instead variable by (read solved (instead variable by r)) ≡ instead variable by r
    by_exp (Const n) k = rw k refl
    by_exp (Var x) k = by_test (x == variable) refl
      where
        by_test : (b : Bool) → (x == variable) ≡ b →
            instead variable by (read solved (instead variable by (Var x))) ≡ instead variable by (Var x)
        by_test true e = rw (e, by_read) (instead-by variable by)
        by_test false e = rw (e, k, e) refl

push-lower : (solved : List Solved) (variable : ℕ) (by : Exp) → AreLower solved → is_below variable by ≡ true →
    AreLower (with_solved solved variable by)
push-lower [] variable by lower one = (one, tt)
push-lower (first ∷ later) variable by lower one = (lower.0, push-lower later variable by lower.1 one)

is_solved-push : (x : ℕ) (solved : List Solved) (variable : ℕ) (by : Exp) → is_solved x solved ≡ false → (x == variable) ≡ false →
    is_solved x (with_solved solved variable by) ≡ false
is_solved-push x [] variable by none apart = rw apart refl
is_solved-push x (first ∷ later) variable by none apart =
    let parts = or_parts (x == first.variable) (is_solved x later) none in
    rw (parts.0, is_solved-push x later variable by parts.1 apart) refl

eqb-sym : (x y : ℕ) → (x == y) ≡ false → (y == x) ≡ false
eqb-sym x y h = by_test (y == x) refl
  where
    by_test : (b : Bool) → (y == x) ≡ b → (y == x) ≡ false
    by_test false e = e
    by_test true e = let turned : (x == y) ≡ true = eq-eqb x y (sym (eqb-true y x e)) in cc

push-distinct : (solved : List Solved) (variable : ℕ) (by : Exp) → AreDistinct solved → is_solved variable solved ≡ false →
    AreDistinct (with_solved solved variable by)
push-distinct [] variable by distinct new = (refl, tt)
push-distinct (first ∷ later) variable by distinct new =
    let parts = or_parts (variable == first.variable) (is_solved variable later) new in (
      is_solved-push first.variable later variable by distinct.0
          (eqb-sym variable first.variable parts.0),
      push-distinct later variable by distinct.1 parts.1,
    )

pub push-solution : (solved : List Solved) (variable : ℕ) (by : Exp) → IsSolution solved → read solved (Var variable) ≡ Var variable →
    read solved by ≡ by → is_below variable by ≡ true →
    IsSolution (with_solved solved variable by)
push-solution solved variable by is itself by_read below = record {
  clean = push-clean solved variable by is.clean by_read;
  lower = push-lower solved variable by is.lower below;
  distinct = push-distinct solved variable by is.distinct (itself-unsolved variable solved is.lower itself);
}

-- ---- the rules keep it

with_read-solution : (solved : List Solved) (left right : Exp) → IsSolution solved → read solved left ≡ left → read solved right ≡ right →
    MatchOption (with_read solved left right) (Unit {0}) IsSolution
with_read-solution solved (Const m) (Const n) is l r = by_test (int_eq m n) refl
  where
    by_test : (b : Bool) → int_eq m n ≡ b → MatchOption (with_read solved (Const m) (Const n)) (Unit {0}) IsSolution
    by_test true e = rw e is
    by_test false e = rw e tt
with_read-solution solved (Var x) (Const n) is l r = push-solution solved x (Const n) is l r refl
with_read-solution solved (Const n) (Var x) is l r = push-solution solved x (Const n) is r l refl
with_read-solution solved (Var x) (Var y) is l r = by_test (x == y) refl (ltb x y) refl
  where
    by_test : (b : Bool) → (x == y) ≡ b → (d : Bool) → ltb x y ≡ d → MatchOption (with_read solved (Var x) (Var y)) (Unit {0}) IsSolution
    by_test true e d f = rw e is
    by_test false e true f = rw (e, f) (push-solution solved y (Var x) is r l f)
    by_test false e false f =
        let over : y ≤ x = ltb-false x y f in
        let below : y < x = grind (arith, nat_tests) in
        rw (e, f) (push-solution solved x (Var y) is l r (lt-ltb y x below))

pub with_equation-solution : (solved : List Solved) (left right : Exp) → IsSolution solved →
    MatchOption (with_equation solved left right) (Unit {0}) IsSolution
with_equation-solution solved left right is =
    with_read-solution solved (read solved left) (read solved right) is (is.clean left) (is.clean right)

pub solve-solution : (facts : List Fact) (solved : List Solved) → IsSolution solved → MatchOption (solve facts solved) (Unit {0}) IsSolution
solve-solution [] solved is = is
solve-solution (Eq left right ∷ facts) solved is =
    unless_clash-goes (Unit {0}) IsSolution IsSolution (λ more. solve facts more) (with_equation solved left right)
    (with_equation-solution solved left right is) (λ more k. solve-solution facts more k)
solve-solution (Ne left right ∷ facts) solved is = solve-solution facts solved is

pub no_solution : IsSolution []
no_solution = record { clean = λ e. refl; lower = tt; distinct = tt }

-- ---- the second rule ends: no segment is left that is known to be empty

abbrev pub IsAtEnd : Settled → Type 0
IsAtEnd settled = IsSolution settled.solved × (place_of_empty settled.solved settled.atoms ≡ None)

-- the turns are enough
pub settle-ends : (turns : ℕ) (solved : List Solved) (atoms : List Atom) → length atoms ≤ turns → IsSolution solved →
    MatchOption (settle turns solved atoms) (Unit {0}) IsAtEnd
settle-ends zero solved [] enough is = (is, refl)
settle-ends zero solved (atom ∷ atoms) enough is = absurd (omega arith)
settle-ends (suc turns) solved atoms enough is =
    by_place (place_of_empty solved atoms) refl (place_of_empty-is solved atoms)
    (λ more others fewer k. settle-ends turns more others fewer k)
  where
    by_place : (o : Option ℕ) → place_of_empty solved atoms ≡ o → ((place : ℕ) → o ≡ Some place → IsEmptied solved atoms place) →
        ((more : List Solved) (others : List Atom) → length others ≤ turns → IsSolution more →
        MatchOption (settle turns more others) (Unit {0}) IsAtEnd) →
        MatchOption (settle_at (λ more others. settle turns more others) solved atoms o) (Unit {0}) IsAtEnd
    by_place None e told again = (is, e)
    by_place (Some place) e told again =
        let emptied : IsEmptied solved atoms place = told place refl in
        let shorter = remove-shorter atoms place (Seg emptied.kind emptied.link emptied.from emptied.to) emptied.is in
        let fewer : length (remove atoms place) ≤ turns = omega arith in
        rw emptied.is
        (unless_clash-goes (Unit {0}) IsSolution IsAtEnd (λ more. settle turns more (remove atoms place))
        (with_equation solved emptied.from emptied.to) (with_equation-solution solved emptied.from emptied.to is)
        (λ more k. again more (remove atoms place) fewer k))
