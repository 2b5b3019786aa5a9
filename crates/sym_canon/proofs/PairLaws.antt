-- The canonical form of a pair keeps the meaning, up to other numbers for the logical variables that are no parameters.
use Rattle.std.specs.Prelude.{◌≡◌, ◌↔◌, ℕ, ◌<◌, ◌≤◌, ℤ, Bool, true, false, ltb, List, []}
use Rattle.std.proofs.Common.{refl, sym, ap, subst, ◌∙◌, arith}
use Rattle.std.proofs.lemmas.Bool.{ltb-true, ltb-false}
use Rattle.shape_data.specs.declared.machine.Cell.{Cell}
use Rattle.shape_data.specs.declared.program.StructDef.{StructDef}
use Rattle.shape_data.specs.declared.symbolic.Exp.{Exp}
use Rattle.shape_data.specs.declared.symbolic.Exp.TheVariants.{Var, Const}
use Rattle.shape_data.specs.declared.symbolic.SymHeap.{SymHeap}
use Rattle.shape_data.specs.declared.symbolic.SymState.{SymState}
use Rattle.shape_data.specs.Meaning.{value, Meets, MeetsState}
use Rattle.sym_parts.specs.Laws.Each.{EachInState}
use Rattle.sym_parts.specs.Laws.Mapped.{on_state, renamed}
use Rattle.sym_parts.proofs.LawsLemmas.MappedLemmas.{values-mapped, Holds-mapped}
use Rattle.sym_canon.specs.declared.parts.Variables.TheVariants.{Further}
use Rattle.sym_canon.specs.Canonical.{sight_state, sight_pair, arranged, without_locals, state_with_facts_sorted, canon_pair}
use Rattle.sym_canon.specs.Laws.{IsRenumbering, CanonPairKeepsMeaning}
use Rattle.sym_canon.specs.Numbering.{with_number}
use Rattle.sym_canon.proofs.CanonLaws.{both-trans, arranged-meets, sorted-meets}
use Rattle.sym_canon.proofs.FrontLaws.{AreFrom, to_front, from_front, front-below, front-undone, front-redone, front-under, front-over}
use Rattle.sym_canon.proofs.NumberLaws.{seen-from, further-under, state-numbered}
use Rattle.sym_canon.proofs.SightLaws.{AreSeen, Known, none-seen, state-seen, state-known, state-stays, kept-state}

-- the numbers brought to the front are a renumbering
front-renumbering : (params : ℕ) (seen : List ℕ) → AreSeen (Further params) seen →
    IsRenumbering params (to_front params seen) (from_front params seen)
front-renumbering params seen are = record {
  undone = front-undone params seen from;
  redone = front-redone params seen from;
  keeps_parameters = front-below params seen from;
  keeps_existential = front-over params 65536 seen from (further-under params seen are);
  stays_logical = front-under params 65536 seen from (further-under params seen are);
}
  where
    from : AreFrom params seen
    from = seen-from (Further params) seen are

module _ (params : ℕ) (number back : ℕ → ℕ) (is : IsRenumbering params number back) where
  -- a logical variable comes from a logical variable
  back-logical : (y : ℕ) → y < 65536 → back y < 65536
  back-logical y low = by_test (ltb (back y) 65536) refl
    where
      by_test : (b : Bool) → ltb (back y) 65536 ≡ b → back y < 65536
      by_test true e = ltb-true (back y) 65536 e
      by_test false e =
          let high : 65536 ≤ back y = ltb-false (back y) 65536 e in
          let same : back y ≡ y = sym (is.keeps_existential (back y) high) ∙ is.redone y in
          absurd (omega arith)

  reads-back : (t : ℕ → ℤ) (e : Exp) → value (λ y. t (back y)) (renamed number e) ≡ value t e
  reads-back t (Var x) = ap t (is.undone x)
  reads-back t (Const n) = refl

  reads-number : (u : ℕ → ℤ) (e : Exp) → value u (renamed number e) ≡ value (λ x. u (number x)) e
  reads-number u (Var x) = refl
  reads-number u (Const n) = refl

  -- what met under the values of the new numbers meets with the new numbers
  renumbered-meets : (structs : List StructDef) (s : ℕ → ℤ) (locals : List ℤ) (heap : List Cell) (state : SymState) →
      MeetsState structs (λ x. s (number x)) locals heap state ↔ MeetsState structs s locals heap (on_state (renamed number) state)
  renumbered-meets structs s locals heap state = (
    λ m. let u : ℕ → ℤ = λ y. m.0 (back y) in (
      u,
      λ y low. m.1 (back y) (back-logical y low) ∙ ap s (is.redone y),
      m.2 ∙ sym (values-mapped u m.0 (renamed number) (reads-back m.0) state.locals),
      (Holds-mapped u m.0 (renamed number) (reads-back m.0) structs heap state.heap).1 m.3,
    ),
    λ m. let t : ℕ → ℤ = λ x. m.0 (number x) in (
      t,
      λ x low. m.1 (number x) (is.stays_logical x low),
      m.2 ∙ values-mapped m.0 t (renamed number) (reads-number m.0) state.locals,
      (Holds-mapped m.0 t (renamed number) (reads-number m.0) structs heap state.heap).0 m.3,
    ),
  )

-- a heap is a state without locals
module _ (structs : List StructDef) (s : ℕ → ℤ) (heap : List Cell) (shape : SymHeap) where
  heap-state : Meets structs s heap shape → MeetsState structs s [] heap (without_locals shape)
  heap-state m = (m.0, m.1, refl, m.2)

  state-heap : MeetsState structs s [] heap (without_locals shape) → Meets structs s heap shape
  state-heap m = (m.0, m.1, m.3)

-- a part whose variables are all among those that were seen
module _ (params : ℕ) (seen : List ℕ) (are : AreSeen (Further params) seen) where
  part-meets : (part : SymState) → EachInState (Known (Further params) seen) (arranged params part) →
      (structs : List StructDef) (s : ℕ → ℤ) (locals : List ℤ) (heap : List Cell) →
      MeetsState structs (λ x. s (to_front params seen x)) locals heap part
      ↔ MeetsState structs s locals heap (state_with_facts_sorted (on_state (with_number params seen) (arranged params part)))
  part-meets part each structs s locals heap =
      let same : on_state (with_number params seen) (arranged params part)
      ≡ on_state (renamed (to_front params seen)) (arranged params part) =
      state-numbered (Further params) seen are (arranged params part) each in
      let P : SymState → Type 0 = λ made. MeetsState structs (λ x. s (to_front params seen x)) locals heap (arranged params part)
      ↔ MeetsState structs s locals heap made in
      both-trans (arranged-meets structs (λ x. s (to_front params seen x)) locals heap params part)
      (both-trans (subst P (sym same)
      (renumbered-meets params (to_front params seen) (from_front params seen) (front-renumbering params seen are) structs s locals heap
      (arranged params part)))
      (sorted-meets structs s locals heap (on_state (with_number params seen) (arranged params part))))

pub canon_pair_keeps_meaning : CanonPairKeepsMeaning
canon_pair_keeps_meaning missing state params = record {
  number = to_front params seen;
  back = from_front params seen;
  renumbers = front-renumbering params seen are;
  missing = λ structs s heap. (
    λ m. state-heap structs s heap (canon_pair missing state params).missing
        ((missing_meets structs s [] heap).0 (heap-state structs (λ x. s (to_front params seen x)) heap missing m)),
    λ m. state-heap structs (λ x. s (to_front params seen x)) heap missing
        ((missing_meets structs s [] heap).1 (heap-state structs s heap (canon_pair missing state params).missing m)),
  );
  state = λ structs s locals heap. part-meets params seen are state (state-known (Further params) second before) structs s locals heap;
}
  where
    first : SymState
    first = arranged params (without_locals missing)

    second : SymState
    second = arranged params state

    before : List ℕ
    before = sight_state (Further params) first []

    seen : List ℕ
    seen = sight_pair params first second

    are : AreSeen (Further params) seen
    are = state-seen (Further params) second before (state-seen (Further params) first [] (none-seen (Further params)))

    missing_known : EachInState (Known (Further params) seen) first
    missing_known =
        state-stays (Further params) before seen (kept-state (Further params) second before) first (state-known (Further params) first [])

    missing_meets : (structs : List StructDef) (s : ℕ → ℤ) (locals : List ℤ) (heap : List Cell) →
        MeetsState structs (λ x. s (to_front params seen x)) locals heap (without_locals missing)
        ↔ MeetsState structs s locals heap (state_with_facts_sorted (on_state (with_number params seen) first))
    missing_meets = part-meets params seen are (without_locals missing) missing_known
