-- What goes as redundant is true without being said; one Junk says as much as several.
use Rattle.std.specs.Prelude.{◌≡◌, ◌⊎◌, ℕ, ℤ, pos, Bool, true, false, ◌&&◌, ◌||◌, List, [], ◌∷◌, ◌++◌}
use Rattle.std.proofs.Common.{refl, sym, ap, ◌∙◌, ⊎_elim}
use Rattle.std.specs.Ordering.{int_eq}
use Rattle.std.proofs.lemmas.Bool.{or_cases, or_parts, and_parts}
use Rattle.std.proofs.lemmas.Bool.Decides.{Decides-int_eq}
use Rattle.shape_data.specs.declared.machine.Cell.{Cell}
use Rattle.shape_data.specs.declared.program.StructDef.{StructDef}
use Rattle.shape_data.specs.declared.symbolic.Atom.{Atom}
use Rattle.shape_data.specs.declared.symbolic.Atom.TheVariants.{Points, Seg, Junk}
use Rattle.shape_data.specs.declared.symbolic.Exp.{Exp}
use Rattle.shape_data.specs.declared.symbolic.Exp.TheVariants.{Var, Const}
use Rattle.shape_data.specs.declared.symbolic.Fact.{Fact}
use Rattle.shape_data.specs.declared.symbolic.Fact.TheVariants.{Eq, Ne}
use Rattle.shape_data.specs.Meaning.{value, AreTrueFacts, HoldsAtoms}
use Rattle.sym_parts.proofs.ShapesLemmas.Atoms.{HoldsAtoms-is_heap}
use Rattle.sym_parts.proofs.ShapesLemmas.Meets.{AreTrueFacts-append, AreTrueFacts-split}
use Rattle.sym_parts.specs.Laws.Addresses.{address_of, addresses}
use Rattle.sym_parts.specs.Laws.Expressions.{same_exp, is_among}
use Rattle.sym_parts.specs.Laws.Orders.{SayTheSame}
use Rattle.sym_parts.proofs.LawsLemmas.AddressLemmas.{IsHeap-not_zero, address-owned, found_of_named, apart_of_named}
use Rattle.sym_parts.proofs.LawsLemmas.ExpressionLemmas.{same_exp-Decides, same_exp-equal, are_two-different}
use Rattle.sym_parts.proofs.LawsLemmas.JunkLemmas.{one_junk_is_enough}
use Rattle.sym_parts.proofs.LawsLemmas.OrderLemmas.{same-refl, same-cons}
use Rattle.sym_pure.specs.Contradictions.{has_same_sides}
use Rattle.sym_pure.specs.Emptying.{is_plain}
use Rattle.sym_pure.specs.Redundancy.{are_constants, is_redundant, with_needed, needed, one_junk}
use Rattle.sym_pure.specs.Sources.{is_written}
use Rattle.sym_pure.proofs.SourcesLaws.{written-differ}

module _ (t : ℕ → ℤ) (cells : List Exp) where
  with_needed-to : (kept : List Fact) (left right : Exp) → AreTrueFacts t kept → (value t left ≡ value t right → ⊥)
      → AreTrueFacts t (with_needed cells kept left right)
  with_needed-to kept left right h one = by_test (is_redundant cells kept left right) refl
    where
      by_test : (b : Bool) → is_redundant cells kept left right ≡ b → AreTrueFacts t (with_needed cells kept left right)
      by_test true e = rw e h
      by_test false e = rw e (AreTrueFacts-append t kept (Ne left right ∷ []) h (one, tt))

  -- what is true stays true where some of it goes
  pub needed-to : (facts kept : List Fact) → AreTrueFacts t facts → AreTrueFacts t kept → AreTrueFacts t (needed cells facts kept)
  needed-to [] kept h k = k
  needed-to (Eq left right ∷ facts) kept h k = needed-to facts kept h.1 k
  needed-to (Ne left right ∷ facts) kept h k =
      needed-to facts (with_needed cells kept left right) h.1 (with_needed-to kept left right k h.0)

-- the other way: what went is true beside the atoms
module _ (structs : List StructDef) (t : ℕ → ℤ) (heap : List Cell) (atoms : List Atom) (holds : HoldsAtoms structs t atoms heap) where
  constants-differ : (e f : Exp) → are_constants e f ≡ true → same_exp e f ≡ false → value t e ≡ value t f → ⊥
  constants-differ (Const m) (Const n) h apart same = let e : int_eq m n ≡ true = (Decides-int_eq m n).1 same in cc
  constants-differ (Const m) (Var y) h apart same = cc
  constants-differ (Var x) f h apart same = cc

  zero_and_cell-differ : (x : Exp) → value t x ≡ pos 0 → is_among x (addresses atoms) ≡ true → ⊥
  zero_and_cell-differ x x_zero x_in =
      IsHeap-not_zero (HoldsAtoms-is_heap structs t atoms holds) (value t x)
      (found_of_named structs t address_of (address-owned structs t) x atoms heap holds x_in) x_zero

  plain-differ : (e f : Exp) → is_plain (addresses atoms) e ≡ true → is_plain (addresses atoms) f ≡ true → same_exp e f ≡ false
      → value t e ≡ value t f → ⊥
  plain-differ e f e_plain f_plain apart same =
      ⊎_elim (λ e_zero. ⊎_elim (λ f_zero. both_zero e_zero f_zero)
      (λ f_in. zero_and_cell-differ f (sym same ∙ ap (value t) (same_exp-equal e (Const (pos 0)) e_zero)) f_in) f_cases)
      (λ e_in. ⊎_elim (λ f_zero. zero_and_cell-differ e (same ∙ ap (value t) (same_exp-equal f (Const (pos 0)) f_zero)) e_in)
      (λ f_in. apart_of_named structs t address_of (address-owned structs t) e f atoms heap holds
      (are_two-different e f (addresses atoms) apart e_in f_in) same) f_cases)
      (or_cases (same_exp e (Const (pos 0))) (is_among e (addresses atoms)) e_plain)
    where
      f_cases : (same_exp f (Const (pos 0)) ≡ true) ⊎ (is_among f (addresses atoms) ≡ true)
      f_cases = or_cases (same_exp f (Const (pos 0))) (is_among f (addresses atoms)) f_plain

      both_zero : same_exp e (Const (pos 0)) ≡ true → same_exp f (Const (pos 0)) ≡ true → ⊥
      both_zero h k = let alike : same_exp e f
          ≡ true = (same_exp-Decides e f).1 (same_exp-equal e (Const (pos 0)) h ∙ sym (same_exp-equal f (Const (pos 0)) k)) in cc

  redundant-differ : (kept : List Fact) (e f : Exp) → AreTrueFacts t kept → is_redundant (addresses atoms) kept e f ≡ true
      → same_exp e f ≡ false → value t e ≡ value t f → ⊥
  redundant-differ kept e f kept_true h apart same =
      ⊎_elim (λ constants. constants-differ e f constants apart same)
      (λ k. ⊎_elim
      (λ plain. let parts = and_parts (is_plain (addresses atoms) e)
      (is_plain (addresses atoms) f) plain in plain-differ e f parts.0 parts.1 apart same)
      (λ written. written-differ t kept e f kept_true written same)
      (or_cases (is_plain (addresses atoms) e && is_plain (addresses atoms) f) (is_written kept e f) k))
      (or_cases (are_constants e f) ((is_plain (addresses atoms) e && is_plain (addresses atoms) f) || is_written kept e f) h)

  with_needed-from : (kept : List Fact) (left right : Exp) → same_exp left right ≡ false
      → AreTrueFacts t (with_needed (addresses atoms) kept left right) → AreTrueFacts t kept × (value t left ≡ value t right → ⊥)
  with_needed-from kept left right apart h = by_test (is_redundant (addresses atoms) kept left right) refl h
    where
      by_test : (b : Bool) → is_redundant (addresses atoms) kept left right ≡ b
          → AreTrueFacts t (with_needed (addresses atoms) kept left right) → AreTrueFacts t kept × (value t left ≡ value t right → ⊥)
      by_test true e k = let all : AreTrueFacts t kept = rw e at k in (all, redundant-differ kept left right all e apart)
      by_test false e k =
          let all : AreTrueFacts t (kept ++ Ne left right ∷ []) = rw e at k in
          let parts = AreTrueFacts-split t kept (Ne left right ∷ []) all in
          (parts.0, parts.1.0)

  -- of disequalities alone, none of an expression and itself
  abbrev pub AreDisequalities : List Fact → Type 0
  AreDisequalities [] = Unit {0}
  AreDisequalities (Eq left right ∷ facts) = ⊥
  AreDisequalities (Ne left right ∷ facts) = AreDisequalities facts

  pub needed-from : (facts kept : List Fact) → AreDisequalities facts → has_same_sides facts ≡ false
      → AreTrueFacts t (needed (addresses atoms) facts kept) → AreTrueFacts t kept × AreTrueFacts t facts
  needed-from [] kept are apart h = (h, tt)
  needed-from (Eq left right ∷ facts) kept are apart h = absurd are
  needed-from (Ne left right ∷ facts) kept are apart h =
      let sides = or_parts (same_exp left right) (has_same_sides facts) apart in
      let later = needed-from facts (with_needed (addresses atoms) kept left right) are sides.1 h in
      let parts = with_needed-from kept left right sides.0 later.0 in
      (parts.0, (parts.1, later.1))

-- one Junk says as much as several
pub one_junk-same : (atoms : List Atom) → SayTheSame atoms (one_junk atoms)
one_junk-same [] = same-refl []
one_junk-same (Points at kind fields ∷ atoms) = same-cons (Points at kind fields) atoms (one_junk atoms) (one_junk-same atoms)
one_junk-same (Seg kind link from to ∷ atoms) = same-cons (Seg kind link from to) atoms (one_junk atoms) (one_junk-same atoms)
one_junk-same (Junk ∷ atoms) = one_junk_is_enough atoms
