-- Values for new variables: the assignment that gives them, and what does not see them.
use Rattle.std.specs.Prelude.{◌≡◌, ℕ, zero, suc, ℤ, pos, Bool, true, false, not, if◌then◌else◌, ◌==◌, List, [], ◌∷◌, map, length, slice_get}
use Rattle.std.specs.Prelude.{slice_index_or}
use Rattle.std.proofs.Common.{refl, sym, ap₂, ◌∙◌, arith}
use Rattle.std.specs.List.{list_any}
use Rattle.std.specs.declared.option.Option.TheVariants.{Some}
use Rattle.std.proofs.lemmas.Bool.{eqb-true, eq-eqb, or_parts, and_parts, not-true}
use Rattle.shape_data.specs.declared.machine.Cell.{Cell}
use Rattle.shape_data.specs.declared.program.StructDef.{StructDef}
use Rattle.shape_data.specs.declared.symbolic.Atom.{Atom}
use Rattle.shape_data.specs.declared.symbolic.Exp.{Exp}
use Rattle.shape_data.specs.declared.symbolic.Exp.TheVariants.{Var}
use Rattle.shape_data.specs.Meaning.{value, HoldsAtoms}
use Rattle.sym_parts.specs.Shapes.Symbolic.{is_variable, occurs_in_atom}
use Rattle.sym_parts.proofs.ShapesLemmas.Agree.{AgreeWhere, value-agree, HoldsAtoms-agree}
use Rattle.sym_parts.specs.Laws.Fresh.{is_one_of, are_different, AgreeButFor, AreNewIn}

-- the assignment with these values for these variables
abbrev pub assign : List ℕ → List ℤ → (ℕ → ℤ) → ℕ → ℤ
assign [] values t x = t x
assign (name ∷ names) [] t x = t x
assign (name ∷ names) (v ∷ values) t x = if x == name then v else assign names values t x

pub assign-agrees : (names : List ℕ) (values : List ℤ) (t : ℕ → ℤ) → AgreeButFor names t (assign names values t)
assign-agrees [] values t x h = refl
assign-agrees (name ∷ names) [] t x h = refl
assign-agrees (name ∷ names) (v ∷ values) t x h =
    let parts = or_parts (x == name) (is_one_of names x) h in
    let here : (x == name) ≡ false = parts.0 in
    rw here (assign-agrees names values t x parts.1)

-- a variable in front changes nothing behind it
assign-behind : (name : ℕ) (v : ℤ) (names : List ℕ) (values : List ℤ) (t : ℕ → ℤ) (others : List ℕ) → is_one_of others name ≡ false →
    map (value (assign (name ∷ names) (v ∷ values) t)) (map Var others) ≡ map (value (assign names values t)) (map Var others)
assign-behind name v names values t [] h = refl
assign-behind name v names values t (other ∷ others) h =
    let parts = or_parts (name == other) (is_one_of others name) h in
    ap₂ (λ y ys. y ∷ ys) (by_test (other == name) refl parts.0) (assign-behind name v names values t others parts.1)
  where
    by_test : (b : Bool) → (other == name) ≡ b → (name == other) ≡ false →
        assign (name ∷ names) (v ∷ values) t other ≡ assign names values t other
    by_test true e k = let back : (name == other) ≡ true = eq-eqb name other (sym (eqb-true other name e)) in cc
    by_test false e k = rw e refl

-- different variables get their values
pub assign-names : (names : List ℕ) (values : List ℤ) (t : ℕ → ℤ) → are_different names ≡ true → length names ≡ length values →
    map (value (assign names values t)) (map Var names) ≡ values
assign-names [] [] t different same = refl
assign-names [] (v ∷ values) t different same = absurd (omega arith)
assign-names (name ∷ names) [] t different same = absurd (omega arith)
assign-names (name ∷ names) (v ∷ values) t different same =
    let parts = and_parts (not (is_one_of names name)) (are_different names) different in
    ap₂ (λ y ys. y ∷ ys) (rw (eq-eqb name name refl) refl)
    (assign-behind name v names values t names (not-true (is_one_of names name) parts.0)
    ∙ assign-names names values t parts.1 (omega arith))

pub names-get : (names : List ℕ) (values : List ℤ) (t : ℕ → ℤ) (place : ℕ) (x : ℕ) → map (value t) (map Var names) ≡ values →
    slice_get names place ≡ Some x → t x ≡ slice_index_or values place (pos 0)
names-get [] values t place x same is = cc
names-get (name ∷ names) [] t place x same is = cc
names-get (name ∷ names) (v ∷ values) t zero x same is = let e : name ≡ x = cc in let first : t name ≡ v = cc in rw (← e) first
names-get (name ∷ names) (v ∷ values) t (suc place) x same is =
    let others : map (value t) (map Var names) ≡ values = cc in names-get names values t place x others is

module _ (names : List ℕ) (t u : ℕ → ℤ) (agree : AgreeButFor names t u) where
  -- where no name occurs the two assignments agree
  pub new-agrees : (occurs : ℕ → Bool) → ((x : ℕ) → is_one_of names x ≡ true → occurs x ≡ false) → AgreeWhere occurs t u
  new-agrees occurs new x is = by_test (is_one_of names x) refl
    where
      by_test : (b : Bool) → is_one_of names x ≡ b → t x ≡ u x
      by_test true e = let none : occurs x ≡ false = new x e in cc
      by_test false e = sym (agree x e)

  pub value-new : (e : Exp) → ((x : ℕ) → is_one_of names x ≡ true → is_variable x e ≡ false) → value t e ≡ value u e
  value-new e new = value-agree t u e (new-agrees (λ x. is_variable x e) new)

  -- atoms in which no name occurs hold under both
  pub HoldsAtoms-new : (structs : List StructDef) (atoms : List Atom) (heap : List Cell) → AreNewIn atoms names →
      HoldsAtoms structs t atoms heap → HoldsAtoms structs u atoms heap
  HoldsAtoms-new structs atoms heap new h =
      HoldsAtoms-agree t u structs atoms heap (new-agrees (λ x. list_any (occurs_in_atom x) atoms) new) h
