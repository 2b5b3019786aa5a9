-- New existential variables of a pair: under other values for them all that is there keeps its own.
use Rattle.std.specs.Prelude.{◌≡◌, ℕ, ◌<◌, ◌≤◌, ltb, ℤ, Bool, true, false, ◌||◌, List, [], map}
use Rattle.std.specs.List.{list_any}
use Rattle.std.proofs.Common.{refl, ◌∙◌, arith}
use Rattle.std.proofs.lemmas.Bool.{ltb-true, or_left, or_right}
use Rattle.shape_data.specs.declared.machine.Cell.{Cell}
use Rattle.shape_data.specs.declared.program.StructDef.{StructDef}
use Rattle.shape_data.specs.Meaning.{value, AgreesOnLogical, AreTrueFacts, HoldsAtoms}
use Rattle.sym_parts.specs.Shapes.Symbolic.{is_variable, occurs_in_atom, occurs_in_fact}
use Rattle.sym_parts.proofs.ShapesLemmas.Agree.{AreTrueFacts-agree, values-agree}
use Rattle.sym_parts.specs.Laws.Each.{EachInHeap}
use Rattle.sym_parts.specs.Laws.Fresh.{is_one_of, AgreeButFor, AreNewIn}
use Rattle.sym_parts.proofs.LawsLemmas.FreshLemmas.{new-agrees, HoldsAtoms-new}
use Rattle.sym_canon.specs.declared.parts.Pair.{Pair}
use Rattle.sym_matching.specs.Laws.{is_kept}
use Rattle.sym_matching.specs.Variables.{with_exps, with_state}
use Rattle.sym_matching.proofs.GivesLaws.{exps_occur, occurs-kept}
use Rattle.sym_matching.proofs.KeptLaws.{IsKept}
use Rattle.sym_matching.proofs.VariableLaws.{heap-kept, heap-within, locals-kept}
use Rattle.sym_matching.proofs.RenamingLemmas.NumberLemmas.{fresh_new}
use Rattle.exec_laws.specs.Pairs.{new_existentials, pair_variables}

unless_true : (a b : Bool) → (a ≡ true → b ≡ true) → b ≡ false → a ≡ false
unless_true true b from is = let wrong : b ≡ true = from refl in cc
unless_true false b from is = refl

-- what is new is not kept
not_kept : (used : List ℕ) (x : ℕ) → 65536 ≤ x → is_one_of used x ≡ false → is_kept used x ≡ false
not_kept used x high none = by_test (ltb x 65536) refl
  where
    by_test : (b : Bool) → ltb x 65536 ≡ b → (b || is_one_of used x) ≡ false
    by_test true e = let low : x < 65536 = ltb-true x 65536 e in absurd (omega arith)
    by_test false e = none

module _ (pair : Pair) (count : ℕ) where
  away : (x : ℕ) → is_one_of (new_existentials count pair) x ≡ true → is_kept (pair_variables pair) x ≡ false
  away x is = let new = fresh_new count (pair_variables pair) x is in not_kept (pair_variables pair) x new.0 new.1

  heap_kept : EachInHeap (IsKept (pair_variables pair)) pair.state.heap
  heap_kept =
      heap-kept pair.state.heap (with_exps [] pair.state.locals) (pair_variables pair) (heap-within pair.missing (with_state [] pair.state))

  new_in_locals : (x : ℕ) → is_one_of (new_existentials count pair) x ≡ true → list_any (is_variable x) pair.state.locals ≡ false
  new_in_locals x is =
      unless_true (list_any (is_variable x) pair.state.locals) (is_kept (pair_variables pair) x)
      (exps_occur (pair_variables pair) x pair.state.locals
      (locals-kept pair.state [] (pair_variables pair) (heap-within pair.missing (with_state [] pair.state)))) (away x is)

  new_in_facts : (x : ℕ) → is_one_of (new_existentials count pair) x ≡ true → list_any (occurs_in_fact x) pair.state.heap.pure ≡ false
  new_in_facts x is =
      unless_true (list_any (occurs_in_fact x) pair.state.heap.pure) (is_kept (pair_variables pair) x)
      (λ h. occurs-kept (pair_variables pair) x pair.state.heap heap_kept
      (or_left (list_any (occurs_in_fact x) pair.state.heap.pure) (list_any (occurs_in_atom x) pair.state.heap.spatial) h)) (away x is)

  pub new_in_atoms : AreNewIn pair.state.heap.spatial (new_existentials count pair)
  new_in_atoms x is =
      unless_true (list_any (occurs_in_atom x) pair.state.heap.spatial) (is_kept (pair_variables pair) x)
      (λ h. occurs-kept (pair_variables pair) x pair.state.heap heap_kept
      (or_right (list_any (occurs_in_fact x) pair.state.heap.pure) (list_any (occurs_in_atom x) pair.state.heap.spatial) h)) (away x is)

  module _ (t u : ℕ → ℤ) (agree : AgreeButFor (new_existentials count pair) t u) where
    pub old_values : map (value t) pair.state.locals ≡ map (value u) pair.state.locals
    old_values =
        values-agree t u pair.state.locals
        (new-agrees (new_existentials count pair) t u agree (λ x. list_any (is_variable x) pair.state.locals) new_in_locals)

    pub old_facts : AreTrueFacts t pair.state.heap.pure → AreTrueFacts u pair.state.heap.pure
    old_facts =
        AreTrueFacts-agree t u pair.state.heap.pure
        (new-agrees (new_existentials count pair) t u agree (λ x. list_any (occurs_in_fact x) pair.state.heap.pure) new_in_facts)

    pub old_atoms : (structs : List StructDef) (heap : List Cell) → HoldsAtoms structs t pair.state.heap.spatial heap
        → HoldsAtoms structs u pair.state.heap.spatial heap
    old_atoms structs heap = HoldsAtoms-new (new_existentials count pair) t u agree structs pair.state.heap.spatial heap new_in_atoms

    pub still_logical : (s : ℕ → ℤ) → AgreesOnLogical s t → AgreesOnLogical s u
    still_logical s agrees x below = by_test (is_one_of (new_existentials count pair) x) refl
      where
        by_test : (b : Bool) → is_one_of (new_existentials count pair) x ≡ b → u x ≡ s x
        by_test true e = let high : 65536 ≤ x = (fresh_new count (pair_variables pair) x e).0 in absurd (omega arith)
        by_test false e = agree x e ∙ agrees x below
