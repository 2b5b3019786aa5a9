-- A state with new numbers for its existential variables means the same.
use Rattle.std.specs.Prelude.{◌≡◌, ℕ, ◌<◌, leb, ℤ, Bool, true, false, ◌==◌, ◌||◌, List, [], ◌∷◌, filter}
use Rattle.std.proofs.Common.{refl, sym, ap, ◌∙◌, ⊎_elim}
use Rattle.std.proofs.lemmas.Bool.{eqb-true, leb-false, or_cases, or_left}
use Rattle.shape_data.specs.declared.machine.Cell.{Cell}
use Rattle.shape_data.specs.declared.program.StructDef.{StructDef}
use Rattle.shape_data.specs.declared.symbolic.Exp.{Exp}
use Rattle.shape_data.specs.declared.symbolic.Exp.TheVariants.{Var, Const}
use Rattle.shape_data.specs.declared.symbolic.SymState.{SymState}
use Rattle.shape_data.specs.Meaning.{value, AgreesOnLogical, MeetsState}
use Rattle.sym_parts.specs.Laws.Fresh.{is_one_of}
use Rattle.sym_parts.specs.Laws.Mapped.{renamed}
use Rattle.sym_parts.proofs.LawsLemmas.MappedLemmas.{Holds-each, Holds-mapped, values-each, values-mapped}
use Rattle.sym_matching.specs.Covers.{existentials}
use Rattle.sym_matching.specs.Variables.{with_exps, with_state}
use Rattle.sym_matching.proofs.KeptLaws.{AgreesOn-logical}
use Rattle.sym_matching.proofs.NewNumberLaws.{logical_stays}
use Rattle.sym_matching.specs.Renaming.Apart.{number_of}
use Rattle.sym_matching.specs.Renaming.Coverings.{state_apart, state_numbers}
use Rattle.sym_matching.specs.Renaming.Laws.{StateApartMeets}
use Rattle.sym_matching.proofs.RenamingLemmas.ListedLemmas.{IsListed, heap-listed, locals-listed}
use Rattle.sym_matching.proofs.RenamingLemmas.NumberLemmas.{renumbered_values}

-- what passes a test and is in a list is in the filtered list, and nothing else is
pub filtered : (test : ℕ → Bool) (xs : List ℕ) (x : ℕ) → is_one_of xs x ≡ true → test x ≡ true → is_one_of (filter test xs) x ≡ true
filtered test [] x is passes = cc
filtered test (y ∷ xs) x is passes = by_test (test y) refl (filtered test xs x)
  where
    by_test : (b : Bool) → test y ≡ b → (is_one_of xs x ≡ true → test x ≡ true → is_one_of (filter test xs) x ≡ true) →
        is_one_of (filter test (y ∷ xs)) x ≡ true
    by_test true e later =
        rw e (⊎_elim (λ here. or_left (x == y) (is_one_of (filter test xs) x) here) (λ there. rw (later there passes) (or_true (x == y)))
        (or_cases (x == y) (is_one_of xs x) is))
      where
        or_true : (b : Bool) → (b || true) ≡ true
        or_true true = refl
        or_true false = refl
    by_test false e later =
        rw e (⊎_elim (λ here. let same : x ≡ y = eqb-true x y here in let wrong : false ≡ true = sym e ∙ ap test (sym same) ∙ passes in cc)
        (λ there. later there passes) (or_cases (x == y) (is_one_of xs x) is))

module _ (used : List ℕ) (state : SymState) where
  -- logical variables keep their numbers
  low_stays : (x : ℕ) → x < 65536 → number_of (state_numbers used state) x ≡ x
  low_stays x low = logical_stays used (with_state [] state) x low

  module _ (structs : List StructDef) (s : ℕ → ℤ) (locals : List ℤ) (heap : List Cell) where
    -- each number has the value of its variable
    pub apart-meets : MeetsState structs s locals heap state → MeetsState structs s locals heap (state_apart used state)
    apart-meets meets =
        let t : ℕ → ℤ = meets.0 in
        let given = renumbered_values used (existentials state) t t in
        let w : ℕ → ℤ = given.0 in
        let names : List ℕ = with_state [] state in
        let logical : AgreesOnLogical t w = AgreesOn-logical used t w given.1 in
        let reads : (e : Exp) → IsListed names e → value w (renamed (number_of (state_numbers used state)) e) ≡ value t e =
        λ e is. reads_of t w logical given.2 e is in (
          w,
          λ x low. logical x low ∙ meets.1 x low,
          meets.2 ∙ sym
              (values-each (IsListed names) w t (renamed (number_of (state_numbers used state))) reads state.locals
              (locals-listed state [])),
          (Holds-each (IsListed names) w t (renamed (number_of (state_numbers used state))) reads structs heap state.heap
              (heap-listed state.heap (with_exps [] state.locals))).1 meets.3,
        )
      where
        reads_of : (t w : ℕ → ℤ) → AgreesOnLogical t w →
            ((x : ℕ) → is_one_of (existentials state) x ≡ true → w (number_of (state_numbers used state) x) ≡ t x) → (e : Exp) →
            IsListed (with_state [] state) e →
            value w (renamed (number_of (state_numbers used state)) e) ≡ value t e
        reads_of t w logical new (Var x) is = by_test (leb 65536 x) refl
          where
            by_test : (b : Bool) → leb 65536 x ≡ b → w (number_of (state_numbers used state) x) ≡ t x
            by_test true e = new x (filtered (λ y. leb 65536 y) (with_state [] state) x is e)
            by_test false e = let low : x < 65536 = leb-false 65536 x e in rw (low_stays x low) (logical x low)
        reads_of t w logical new (Const n) is = refl

    pub apart-met : MeetsState structs s locals heap (state_apart used state) → MeetsState structs s locals heap state
    apart-met meets =
        let w : ℕ → ℤ = meets.0 in
        let u : ℕ → ℤ = λ x. w (number_of (state_numbers used state) x) in (
          u,
          λ x low. ap w (low_stays x low) ∙ meets.1 x low,
          meets.2 ∙ values-mapped w u (renamed (number_of (state_numbers used state))) (reads_number w) state.locals,
          (Holds-mapped w u (renamed (number_of (state_numbers used state))) (reads_number w) structs heap state.heap).0 meets.3,
        )
      where
        reads_number : (t : ℕ → ℤ) (e : Exp) →
            value t (renamed (number_of (state_numbers used state)) e) ≡ value (λ x. t (number_of (state_numbers used state) x)) e
        reads_number t (Var x) = refl
        reads_number t (Const n) = refl

pub state_apart_meets : StateApartMeets
state_apart_meets used state structs s locals heap =
    (apart-meets used state structs s locals heap, apart-met used state structs s locals heap)
