-- Junk takes in whatever stands beside it.
use Rattle.std.specs.Prelude.{◌≡◌, ℕ, ℤ, Bool, true, false, List, [], ◌∷◌, filter}
use Rattle.std.proofs.Common.{refl}
use Rattle.shape_data.specs.declared.machine.Cell.{Cell}
use Rattle.shape_data.specs.declared.program.StructDef.{StructDef}
use Rattle.shape_data.specs.declared.symbolic.Atom.{Atom}
use Rattle.shape_data.specs.declared.symbolic.Atom.TheVariants.{Points, Seg, Junk}
use Rattle.shape_data.specs.Meaning.{HoldsAtoms}
use Rattle.sym_parts.proofs.ShapesLemmas.Atoms.{HoldsAtoms-is_heap}
use Rattle.sym_parts.proofs.ShapesLemmas.Sums.{IsSum-unit, IsSum-to_left}
use Rattle.sym_parts.specs.Laws.Junks.{is_other, JunkAbsorbs, JunkForgets, OneJunkIsEnough}
use Rattle.sym_parts.proofs.LawsLemmas.OrderLemmas.{HoldsAtoms-swap}

pub junk_absorbs : JunkAbsorbs
junk_absorbs structs t atoms whole own rest sum h =
    let grouped = IsSum-to_left sum h.2 in
    (grouped.0, h.1, grouped.1, tt, h.4)

-- an atom beside Junk may be forgotten
pub junk_takes : (structs : List StructDef) (t : ℕ → ℤ) (atom : Atom) (atoms : List Atom) (heap : List Cell)
    → HoldsAtoms structs t (Junk ∷ atom ∷ atoms) heap → HoldsAtoms structs t (Junk ∷ atoms) heap
junk_takes structs t atom atoms heap h =
    let inner : HoldsAtoms structs t (atom ∷ atoms) h.1 = h.4 in
    let grouped = IsSum-to_left h.2 inner.2 in
    (grouped.0, inner.1, grouped.1, tt, inner.4)

pub junk_forgets : JunkForgets
junk_forgets structs t test [] heap h = h
junk_forgets structs t test (atom ∷ atoms) heap h = by_test (test atom) refl (λ rest. junk_forgets structs t test atoms rest)
  where
    by_test : (b : Bool) → test atom ≡ b
        → ((rest : List Cell) → HoldsAtoms structs t (Junk ∷ atoms) rest → HoldsAtoms structs t (Junk ∷ filter test atoms) rest)
        → HoldsAtoms structs t (Junk ∷ filter test (atom ∷ atoms)) heap
    by_test true e go_on =
        let turned : HoldsAtoms structs t (atom ∷ Junk ∷ atoms) heap = HoldsAtoms-swap structs t Junk atom atoms heap h in
        rw e (HoldsAtoms-swap structs t atom Junk (filter test atoms) heap
        (turned.0, turned.1, turned.2, turned.3, go_on turned.1 turned.4))
    by_test false e go_on = rw e (go_on heap (junk_takes structs t atom atoms heap h))

-- Junk may have no cell
pub junk_may_be_empty : (structs : List StructDef) (t : ℕ → ℤ) (atoms : List Atom) (heap : List Cell) → HoldsAtoms structs t atoms heap
    → HoldsAtoms structs t (Junk ∷ atoms) heap
junk_may_be_empty structs t atoms heap h = ([], heap, IsSum-unit (HoldsAtoms-is_heap structs t atoms h), tt, h)

-- the Junk of a list comes back
junk_returns : (structs : List StructDef) (t : ℕ → ℤ) (atoms : List Atom) (heap : List Cell)
    → HoldsAtoms structs t (Junk ∷ filter is_other atoms) heap → HoldsAtoms structs t (Junk ∷ atoms) heap
junk_returns structs t [] heap h = h
junk_returns structs t (Points at kind fields ∷ atoms) heap h =
    let turned = HoldsAtoms-swap structs t Junk (Points at kind fields) (filter is_other atoms) heap h in
    HoldsAtoms-swap structs t (Points at kind fields) Junk atoms heap
    (turned.0, turned.1, turned.2, turned.3, junk_returns structs t atoms turned.1 turned.4)
junk_returns structs t (Seg kind link from to ∷ atoms) heap h =
    let turned = HoldsAtoms-swap structs t Junk (Seg kind link from to) (filter is_other atoms) heap h in
    HoldsAtoms-swap structs t (Seg kind link from to) Junk atoms heap
    (turned.0, turned.1, turned.2, turned.3, junk_returns structs t atoms turned.1 turned.4)
junk_returns structs t (Junk ∷ atoms) heap h = junk_may_be_empty structs t (Junk ∷ atoms) heap (junk_returns structs t atoms heap h)

pub one_junk_is_enough : OneJunkIsEnough
one_junk_is_enough atoms structs t heap = (junk_forgets structs t is_other atoms heap, junk_returns structs t atoms heap)
