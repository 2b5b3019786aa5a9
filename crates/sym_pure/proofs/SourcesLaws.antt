-- Sources own their addresses: what differs has different values, and a contradiction is met by nothing.
use Rattle.std.specs.Prelude.{◌≡◌, ℕ, ℤ, pos, Bool, true, false, not, ◌&&◌, ◌||◌, List, [], ◌∷◌, IsSome}
use Rattle.std.proofs.Common.{refl, sym, ap, ◌∙◌, ⊎_elim}
use Rattle.std.specs.Ordering.{int_eq}
use Rattle.std.specs.declared.option.Option.TheVariants.{None, Some}
use Rattle.std.proofs.lemmas.Bool.{or_cases, and_parts}
use Rattle.std.proofs.lemmas.Bool.Decides.{Decides-int_eq}
use Rattle.shape_data.specs.declared.machine.Cell.{Cell}
use Rattle.shape_data.specs.declared.program.StructDef.{StructDef}
use Rattle.shape_data.specs.declared.symbolic.Atom.{Atom}
use Rattle.shape_data.specs.declared.symbolic.Atom.TheVariants.{Points, Seg, Junk}
use Rattle.shape_data.specs.declared.symbolic.Exp.{Exp}
use Rattle.shape_data.specs.declared.symbolic.Exp.TheVariants.{Var, Const}
use Rattle.shape_data.specs.declared.symbolic.Fact.{Fact}
use Rattle.shape_data.specs.declared.symbolic.Fact.TheVariants.{Eq, Ne}
use Rattle.shape_data.specs.declared.symbolic.SymHeap.{SymHeap}
use Rattle.shape_data.specs.Heap.{cell_at}
use Rattle.shape_data.specs.Meaning.{value, AreTrueFacts, HoldsAtom, HoldsAtoms, Holds}
use Rattle.sym_parts.proofs.ShapesLemmas.Atoms.{HoldsAtoms-is_heap}
use Rattle.sym_parts.specs.Laws.Expressions.{same_exp, is_among, are_two, has_double}
use Rattle.sym_parts.proofs.LawsLemmas.AddressLemmas.{
  IsHeap-not_zero,
  Seg-cases,
  Points-found,
  found_of_named,
  apart_of_named,
  no_double_named,
}
use Rattle.sym_parts.proofs.LawsLemmas.ExpressionLemmas.{same_exp-equal}
use Rattle.sym_pure.specs.Contradictions.{has_same_sides, do_sources_clash, has_clash}
use Rattle.sym_pure.specs.Laws.{DiffersIsSound}
use Rattle.sym_pure.specs.Sources.{are_unequal_constants, is_written, do_ends_differ, source_of, sources, is_zero_and_source, differs}

module _ (t : ℕ → ℤ) where
  pub unequal-differ : (e f : Exp) → are_unequal_constants e f ≡ true → value t e ≡ value t f → ⊥
  unequal-differ (Const m) (Const n) h same =
      let e : int_eq m n ≡ true = (Decides-int_eq m n).1 same in let k : not true ≡ true = rw e at h in cc
  unequal-differ (Const m) (Var y) h same = cc
  unequal-differ (Var x) f h same = cc

  pub written-differ : (facts : List Fact) (e f : Exp) → AreTrueFacts t facts → is_written facts e f ≡ true → value t e ≡ value t f → ⊥
  written-differ [] e f facts_true h same = cc
  written-differ (Eq left right ∷ facts) e f facts_true h same = written-differ facts e f facts_true.1 h same
  written-differ (Ne left right ∷ facts) e f facts_true h same =
      ⊎_elim straight
      (λ k. ⊎_elim turned (λ later. written-differ facts e f facts_true.1 later same)
      (or_cases (same_exp left f && same_exp right e) (is_written facts e f) k))
      (or_cases (same_exp left e && same_exp right f) ((same_exp left f && same_exp right e) || is_written facts e f) h)
    where
      straight : (same_exp left e && same_exp right f) ≡ true → ⊥
      straight k =
          let parts = and_parts (same_exp left e) (same_exp right f) k in
          facts_true.0 (ap (value t) (same_exp-equal left e parts.0) ∙ (same ∙ sym (ap (value t) (same_exp-equal right f parts.1))))

      turned : (same_exp left f && same_exp right e) ≡ true → ⊥
      turned k =
          let parts = and_parts (same_exp left f) (same_exp right e) k in
          facts_true.0 (ap (value t) (same_exp-equal left f parts.0) ∙ (sym same ∙ sym (ap (value t) (same_exp-equal right e parts.1))))

  pub ends-differ : (facts : List Fact) (from to : Exp) → AreTrueFacts t facts → do_ends_differ facts from to ≡ true
      → value t from ≡ value t to → ⊥
  ends-differ facts from to facts_true h same =
      ⊎_elim (λ k. unequal-differ from to k same) (λ k. written-differ facts from to facts_true k same)
      (or_cases (are_unequal_constants from to) (is_written facts from to) h)

  -- an atom owns the address that its source has
  pub source-owned : (structs : List StructDef) (facts : List Fact) → AreTrueFacts t facts → (atom : Atom) (own : List Cell) (e : Exp)
      → source_of facts atom ≡ Some e → HoldsAtom structs t atom own → IsSome (cell_at own (value t e))
  source-owned structs facts facts_true (Points at kind fields) own e is h =
      let same : at ≡ e = cc in rw (← same) (Points-found structs t at kind fields own h)
  source-owned structs facts facts_true (Seg kind link from to) own e is h = by_test (do_ends_differ facts from to) refl is
    where
      by_test : (b : Bool) → do_ends_differ facts from to ≡ b → source_of facts (Seg kind link from to) ≡ Some e
          → IsSome (cell_at own (value t e))
      by_test true d is' =
          let some : Some from ≡ Some e = simp d at is' in
          let same : from ≡ e = cc in
          rw (← same) (⊎_elim (λ empty. absurd (ends-differ facts from to facts_true d empty.1)) (λ there. there)
          (Seg-cases structs t kind link from to own h))
      by_test false d is' = let none : None ≡ Some e = simp d at is' in cc
  source-owned structs facts facts_true Junk own e is h = cc

  module _ (structs : List StructDef) (heap : List Cell) (facts : List Fact) (atoms : List Atom) (facts_true : AreTrueFacts t facts)
      (holds : HoldsAtoms structs t atoms heap) where
    -- a cell stands at each source
    source-found : (e : Exp) → is_among e (sources facts atoms) ≡ true → IsSome (cell_at heap (value t e))
    source-found e is = found_of_named structs t (source_of facts) (source-owned structs facts facts_true) e atoms heap holds is

    -- so it is not 0
    source-not_zero : (e : Exp) → is_among e (sources facts atoms) ≡ true → value t e ≡ pos 0 → ⊥
    source-not_zero e is zero_there = IsHeap-not_zero (HoldsAtoms-is_heap structs t atoms holds) (value t e) (source-found e is) zero_there

    -- and the sources of two atoms differ
    sources-apart : (e f : Exp) → are_two e f (sources facts atoms) ≡ true → value t e ≡ value t f → ⊥
    sources-apart e f two same =
        apart_of_named structs t (source_of facts) (source-owned structs facts facts_true) e f atoms heap holds two same

    same_sides-false : (some : List Fact) → AreTrueFacts t some → has_same_sides some ≡ true → ⊥
    same_sides-false [] some_true h = cc
    same_sides-false (Eq left right ∷ some) some_true h = same_sides-false some some_true.1 h
    same_sides-false (Ne left right ∷ some) some_true h =
        ⊎_elim (λ same. some_true.0 (ap (value t) (same_exp-equal left right same))) (λ later. same_sides-false some some_true.1 later)
        (or_cases (same_exp left right) (has_same_sides some) h)

    -- a contradiction is met by nothing
    pub clash-false : has_clash facts atoms ≡ true → ⊥
    clash-false h =
        ⊎_elim (same_sides-false facts facts_true)
        (λ k. ⊎_elim (λ zero_named. source-not_zero (Const (pos 0)) zero_named refl)
        (no_double_named structs t (source_of facts) (source-owned structs facts facts_true) atoms heap holds)
        (or_cases (is_among (Const (pos 0)) (sources facts atoms)) (has_double (sources facts atoms)) k))
        (or_cases (has_same_sides facts) (do_sources_clash facts atoms) h)

module _ (structs : List StructDef) (t : ℕ → ℤ) (heap : List Cell) (shape : SymHeap) (holds : Holds structs t heap shape) where
  zero_and_source-differ : (e f : Exp) → is_zero_and_source shape e f ≡ true → value t e ≡ value t f → ⊥
  zero_and_source-differ e f h same =
      let parts = and_parts (same_exp e (Const (pos 0))) (is_among f (sources shape.pure shape.spatial)) h in
      source-not_zero t structs heap shape.pure shape.spatial holds.facts holds.atoms f parts.1
      (sym same ∙ ap (value t) (same_exp-equal e (Const (pos 0)) parts.0))

  differs-differ : (e f : Exp) → differs shape e f ≡ true → value t e ≡ value t f → ⊥
  differs-differ e f h same =
      ⊎_elim (λ k. unequal-differ t e f k same)
      (λ k. ⊎_elim (λ l. written-differ t shape.pure e f holds.facts l same)
      (λ l. ⊎_elim (λ m. zero_and_source-differ e f m same)
      (λ m. ⊎_elim (λ n. zero_and_source-differ f e n (sym same))
      (λ n. sources-apart t structs heap shape.pure shape.spatial holds.facts holds.atoms e f n same)
      (or_cases (is_zero_and_source shape f e) (are_two e f (sources shape.pure shape.spatial)) m))
      (or_cases (is_zero_and_source shape e f) (is_zero_and_source shape f e || are_two e f (sources shape.pure shape.spatial)) l))
      (or_cases (is_written shape.pure e f)
      (is_zero_and_source shape e f || (is_zero_and_source shape f e || are_two e f (sources shape.pure shape.spatial))) k))
      (or_cases (are_unequal_constants e f)
      (is_written shape.pure e f
      || (is_zero_and_source shape e f || (is_zero_and_source shape f e || are_two e f (sources shape.pure shape.spatial)))) h)

pub differs_is_sound : DiffersIsSound
differs_is_sound structs t heap shape e f holds h = λ same. differs-differ structs t heap shape holds e f h same
