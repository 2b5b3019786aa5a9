-- The solved equations of logical variables, in their order.
use Rattle.std.specs.Prelude.{◌≡◌, ℕ, ◌<◌, ℤ, Bool, true, false, if◌then◌else◌, ◌==◌, ◌||◌, ltb, List, [], ◌∷◌}
use Rattle.std.proofs.Common.{refl, sym, ap, ⊎_elim}
use Rattle.std.proofs.lemmas.Bool.{or_cases, or_parts, eqb-true, lt-ltb}
use Rattle.shape_data.specs.declared.symbolic.Exp.{Exp}
use Rattle.shape_data.specs.declared.symbolic.Exp.TheVariants.{Var}
use Rattle.shape_data.specs.declared.symbolic.Fact.{Fact}
use Rattle.shape_data.specs.declared.symbolic.Fact.TheVariants.{Eq}
use Rattle.shape_data.specs.Meaning.{value, AreTrueFacts}
use Rattle.sym_pure.specs.declared.parts.Solved.{Solved}
use Rattle.sym_pure.specs.Solving.{read, stands_behind, with_equation_of, equations}
use Rattle.sym_pure.proofs.SolvingLaws.{AreTrueSolved, value-read}

-- the variable is solved
abbrev pub is_solved : ℕ → List Solved → Bool
is_solved x [] = false
is_solved x (first ∷ later) = (x == first.variable) || is_solved x later

pub read-unsolved : (x : ℕ) (solved : List Solved) → is_solved x solved ≡ false → read solved (Var x) ≡ Var x
read-unsolved x [] h = refl
read-unsolved x (first ∷ later) h =
    let parts = or_parts (x == first.variable) (is_solved x later) h in
    let here : (x == first.variable) ≡ false = parts.0 in
    rw here (read-unsolved x later parts.1)

-- the equations with one solved one more, if its variable is logical
abbrev pub with_one : List Solved → Solved → List Fact → List Fact
with_one all first facts = if ltb first.variable 65536 then with_equation_of first.variable (read all (Var first.variable)) facts else facts

module _ (t : ℕ → ℤ) where
  pub with_equation_of-to : (variable : ℕ) (by : Exp) (facts : List Fact) → t variable ≡ value t by → AreTrueFacts t facts →
      AreTrueFacts t (with_equation_of variable by facts)
  with_equation_of-to variable by [] one h = (one, tt)
  with_equation_of-to variable by (fact ∷ facts) one h =
      by_test (stands_behind variable fact) refl (with_equation_of-to variable by facts one h.1)
    where
      by_test : (b : Bool) → stands_behind variable fact ≡ b → AreTrueFacts t (with_equation_of variable by facts) →
          AreTrueFacts t (with_equation_of variable by (fact ∷ facts))
      by_test true e later = rw e (one, h)
      by_test false e later = rw e (h.0, later)

  pub with_equation_of-from : (variable : ℕ) (by : Exp) (facts : List Fact) → AreTrueFacts t (with_equation_of variable by facts) →
      (t variable ≡ value t by) × AreTrueFacts t facts
  with_equation_of-from variable by [] h = (h.0, tt)
  with_equation_of-from variable by (fact ∷ facts) h =
      by_test (stands_behind variable fact) refl h (λ k. with_equation_of-from variable by facts k)
    where
      by_test : (b : Bool) → stands_behind variable fact ≡ b → AreTrueFacts t (with_equation_of variable by (fact ∷ facts)) →
          (AreTrueFacts t (with_equation_of variable by facts) → (t variable ≡ value t by) × AreTrueFacts t facts) →
          (t variable ≡ value t by) × AreTrueFacts t (fact ∷ facts)
      by_test true e k go_on = let all : AreTrueFacts t (Eq (Var variable) by ∷ fact ∷ facts) = rw e at k in (all.0, all.1)
      by_test false e k go_on =
          let all : AreTrueFacts t (fact ∷ with_equation_of variable by facts) = rw e at k in
          let later : (t variable ≡ value t by) × AreTrueFacts t facts = go_on all.1 in
          (later.0, (all.0, later.1))

  with_one-to : (all : List Solved) (first : Solved) (facts : List Fact) → AreTrueSolved t all → AreTrueFacts t facts →
      AreTrueFacts t (with_one all first facts)
  with_one-to all first facts h k = by_test (ltb first.variable 65536) refl
    where
      by_test : (b : Bool) → ltb first.variable 65536 ≡ b → AreTrueFacts t (with_one all first facts)
      by_test true e =
          rw e (with_equation_of-to first.variable (read all (Var first.variable)) facts (sym (value-read t all h (Var first.variable))) k)
      by_test false e = rw e k

  with_one-from : (all : List Solved) (first : Solved) (facts : List Fact) → AreTrueFacts t (with_one all first facts) →
      (first.variable < 65536 → t first.variable ≡ value t (read all (Var first.variable))) × AreTrueFacts t facts
  with_one-from all first facts h = by_test (ltb first.variable 65536) refl h
    where
      by_test : (b : Bool) → ltb first.variable 65536 ≡ b → AreTrueFacts t (with_one all first facts) →
          (first.variable < 65536 → t first.variable ≡ value t (read all (Var first.variable))) × AreTrueFacts t facts
      by_test true e k =
          let k' : AreTrueFacts t (with_equation_of first.variable (read all (Var first.variable)) facts) = rw e at k in
          let parts = with_equation_of-from first.variable (read all (Var first.variable)) facts k' in
          (λ low. parts.0, parts.1)
      by_test false e k = (λ low. let e' : ltb first.variable 65536 ≡ true = lt-ltb first.variable 65536 low in cc, rw e at k)

  pub equations-to : (all later : List Solved) (facts : List Fact) → AreTrueSolved t all → AreTrueFacts t facts →
      AreTrueFacts t (equations all later facts)
  equations-to all [] facts h k = k
  equations-to all (first ∷ later) facts h k = equations-to all later (with_one all first facts) h (with_one-to all first facts h k)

  equations-keep : (all later : List Solved) (facts : List Fact) → AreTrueFacts t (equations all later facts) → AreTrueFacts t facts
  equations-keep all [] facts h = h
  equations-keep all (first ∷ later) facts h = (with_one-from all first facts (equations-keep all later (with_one all first facts) h)).1

  pub equations-from : (all later : List Solved) (facts : List Fact) (x : ℕ) → x < 65536 → is_solved x later ≡ true →
      AreTrueFacts t (equations all later facts) → t x ≡ value t (read all (Var x))
  equations-from all [] facts x low is h = cc
  equations-from all (first ∷ later) facts x low is h =
      ⊎_elim here (λ k. equations-from all later (with_one all first facts) x low k h)
      (or_cases (x == first.variable) (is_solved x later) is)
    where
      here : (x == first.variable) ≡ true → t x ≡ value t (read all (Var x))
      here e =
          let same : x ≡ first.variable = eqb-true x first.variable e in
          rw same ((with_one-from all first facts (equations-keep all later (with_one all first facts) h)).0 (rw (← same) low))

  -- what is true of the equations of logical variables is true of all logical variables
  pub logical-read : (solved : List Solved) → AreTrueFacts t (equations solved solved []) → (x : ℕ) → x < 65536 →
      value t (read solved (Var x)) ≡ t x
  logical-read solved h x low = by_test (is_solved x solved) refl
    where
      by_test : (b : Bool) → is_solved x solved ≡ b → value t (read solved (Var x)) ≡ t x
      by_test true e = sym (equations-from solved solved [] x low e h)
      by_test false e = ap (value t) (read-unsolved x solved e)
