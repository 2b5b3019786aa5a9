-- What is not reached becomes Junk, and disequalities go: both weaken.
use Rattle.std.specs.Prelude.{◌≡◌, ℕ, ℤ, Bool, true, false, List, [], ◌∷◌, ◌++◌, filter}
use Rattle.std.specs.List.{list_all}
use Rattle.std.proofs.Common.{refl, sym, subst}
use Rattle.std.proofs.lemmas.List.{append-nil}
use Rattle.shape_data.specs.declared.machine.Cell.{Cell}
use Rattle.shape_data.specs.declared.program.StructDef.{StructDef}
use Rattle.shape_data.specs.declared.symbolic.Atom.{Atom}
use Rattle.shape_data.specs.declared.symbolic.Atom.TheVariants.{Junk}
use Rattle.shape_data.specs.declared.symbolic.Exp.{Exp}
use Rattle.shape_data.specs.declared.symbolic.Fact.{Fact}
use Rattle.shape_data.specs.Meaning.{AreTrueFacts, HoldsAtoms}
use Rattle.sym_parts.proofs.LawsLemmas.JunkLemmas.{junk_forgets, junk_may_be_empty}
use Rattle.sym_parts.proofs.LawsLemmas.OrderLemmas.{same-middle}
use Rattle.abstraction_laws.specs.Reaching.{is_kept, keep_seen, keep_reached, seen_from}

-- the facts that pass a test are true where all are
pub facts-fewer : (t : ℕ → ℤ) (test : Fact → Bool) (facts : List Fact) → AreTrueFacts t facts → AreTrueFacts t (filter test facts)
facts-fewer t test [] h = h
facts-fewer t test (fact ∷ facts) h = by_test (test fact) refl (facts-fewer t test facts h.1)
  where
    by_test : (b : Bool) → test fact ≡ b → AreTrueFacts t (filter test facts) → AreTrueFacts t (filter test (fact ∷ facts))
    by_test true e rest = rw e (h.0, rest)
    by_test false e rest = rw e rest

-- the atoms that pass a test and Junk behind them hold of what all atoms hold of
pub atoms-fewer : (structs : List StructDef) (t : ℕ → ℤ) (test : Atom → Bool) (atoms : List Atom) (heap : List Cell)
    → HoldsAtoms structs t atoms heap → HoldsAtoms structs t (filter test atoms ++ Junk ∷ []) heap
atoms-fewer structs t test atoms heap h =
    let fewer : HoldsAtoms structs t (Junk ∷ filter test atoms) heap =
    junk_forgets structs t test atoms heap (junk_may_be_empty structs t atoms heap h) in
    (same-middle (filter test atoms) Junk [] structs t heap).1
    (subst (λ xs. HoldsAtoms structs t xs heap) (sym (append-nil (Junk ∷ filter test atoms))) fewer)

pub seen-kept : (structs : List StructDef) (t : ℕ → ℤ) (seen : List Exp) (atoms : List Atom) (heap : List Cell)
    → HoldsAtoms structs t atoms heap → HoldsAtoms structs t (keep_seen seen atoms) heap
seen-kept structs t seen atoms heap h = by_test (list_all (is_kept seen) atoms) refl
  where
    by_test : (b : Bool) → list_all (is_kept seen) atoms ≡ b → HoldsAtoms structs t (keep_seen seen atoms) heap
    by_test true e = rw e h
    by_test false e = rw e (atoms-fewer structs t (is_kept seen) atoms heap h)

pub reached-kept : (structs : List StructDef) (t : ℕ → ℤ) (locals : List Exp) (atoms : List Atom) (heap : List Cell)
    → HoldsAtoms structs t atoms heap → HoldsAtoms structs t (keep_reached locals atoms) heap
reached-kept structs t locals atoms heap h = seen-kept structs t (seen_from locals atoms) atoms heap h
