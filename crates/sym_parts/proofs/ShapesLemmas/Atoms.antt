-- Lists of atoms: their order, their parts.
use Rattle.std.specs.Prelude.{◌≡◌, ℕ, suc, zero, ℤ, List, [], ◌∷◌, ◌++◌, slice_get}
use Rattle.std.proofs.Common.{refl}
use Rattle.std.specs.List.{remove, insert}
use Rattle.std.specs.declared.option.Option.TheVariants.{Some}
use Rattle.shape_data.specs.declared.machine.Cell.{Cell}
use Rattle.shape_data.specs.declared.program.StructDef.{StructDef}
use Rattle.shape_data.specs.declared.symbolic.Atom.{Atom}
use Rattle.shape_data.specs.Heap.{IsHeap, IsSum}
use Rattle.shape_data.specs.Meaning.{HoldsAtom, HoldsAtoms}
use Rattle.sym_parts.proofs.ShapesLemmas.Sums.{IsHeap-empty, IsSum-unit, IsSum-unit_right, IsSum-empty_left, IsSum-rebuild, IsSum-to_left}
use Rattle.sym_parts.proofs.ShapesLemmas.Sums.{IsSum-to_right}

-- what holds a list of atoms is a heap
pub HoldsAtoms-is_heap : (structs : List StructDef) (s : ℕ → ℤ) (atoms : List Atom) {heap : List Cell} → HoldsAtoms structs s atoms heap →
    IsHeap structs heap
HoldsAtoms-is_heap structs s [] holds = rw holds (IsHeap-empty structs)
HoldsAtoms-is_heap structs s (atom ∷ atoms) holds = holds.2.is_heap

-- one atom
pub HoldsAtoms-one : (structs : List StructDef) (s : ℕ → ℤ) (atom : Atom) {heap : List Cell} → IsHeap structs heap →
    HoldsAtom structs s atom heap → HoldsAtoms structs s (atom ∷ []) heap
HoldsAtoms-one structs s atom {heap} is_heap holds = (heap, [], IsSum-unit_right is_heap, holds, refl)

-- the atom at a place, taken out
pub HoldsAtoms-remove : (structs : List StructDef) (s : ℕ → ℤ) (atoms : List Atom) (place : ℕ) (atom : Atom) {heap : List Cell} →
    slice_get atoms place ≡ Some atom → HoldsAtoms structs s atoms heap → HoldsAtoms structs s (atom ∷ remove atoms place) heap
HoldsAtoms-remove structs s [] place atom is holds = cc
HoldsAtoms-remove structs s (first ∷ atoms) zero atom is holds = let same : atom ≡ first = cc in rw same holds
HoldsAtoms-remove structs s (first ∷ atoms) (suc place) atom {heap} is holds =
    let inner : HoldsAtoms structs s (atom ∷ remove atoms place) holds.1 = HoldsAtoms-remove structs s atoms place atom is holds.4 in
    let swapped = IsSum-rebuild holds.2 inner.2 in
    (inner.0, swapped.0, swapped.1, inner.3, (holds.0, inner.1, swapped.2, holds.3, inner.4))

-- and put back
pub HoldsAtoms-restore : (structs : List StructDef) (s : ℕ → ℤ) (atoms : List Atom) (place : ℕ) (atom : Atom) {heap : List Cell} →
    slice_get atoms place ≡ Some atom → HoldsAtoms structs s (atom ∷ remove atoms place) heap → HoldsAtoms structs s atoms heap
HoldsAtoms-restore structs s [] place atom is holds = cc
HoldsAtoms-restore structs s (first ∷ atoms) zero atom is holds = let same : first ≡ atom = cc in rw same holds
HoldsAtoms-restore structs s (first ∷ atoms) (suc place) atom {heap} is holds =
    let swapped = IsSum-rebuild holds.2 holds.4.2 in
    let inner : HoldsAtoms structs s atoms swapped.0 =
    HoldsAtoms-restore structs s atoms place atom is (holds.0, holds.4.1, swapped.2, holds.3, holds.4.4) in
    (holds.4.0, swapped.0, swapped.1, holds.4.3, inner)

-- two lists of atoms: a sum of two heaps, and back
pub HoldsAtoms-append : (structs : List StructDef) (s : ℕ → ℤ) (left right : List Atom) {whole one other : List Cell} →
    IsSum structs whole one other → HoldsAtoms structs s left one → HoldsAtoms structs s right other →
    HoldsAtoms structs s (left ++ right) whole
HoldsAtoms-append structs s [] right {whole} {one} {other} sum first second =
    let empty : IsSum structs whole [] other = rw first at sum in
    rw (IsSum-empty_left empty) second
HoldsAtoms-append structs s (atom ∷ atoms) right sum first second =
    let split = IsSum-to_right sum first.2 in
    (first.0, split.0, split.1, first.3, HoldsAtoms-append structs s atoms right split.2 first.4 second)

pub HoldsAtoms-split : (structs : List StructDef) (s : ℕ → ℤ) (left right : List Atom) {whole : List Cell} →
    HoldsAtoms structs s (left ++ right) whole →
    (one : List Cell) × (other : List Cell) × IsSum structs whole one other × HoldsAtoms structs s left one
    × HoldsAtoms structs s right other
HoldsAtoms-split structs s [] right {whole} holds = ([], whole, IsSum-unit (HoldsAtoms-is_heap structs s right holds), refl, holds)
HoldsAtoms-split structs s (atom ∷ atoms) right holds =
    let inner = HoldsAtoms-split structs s atoms right holds.4 in
    let split = IsSum-to_left holds.2 inner.2 in
    (split.0, inner.1, split.1, (holds.0, inner.0, split.2, holds.3, inner.3), inner.4)

-- an atom put in at a place
pub HoldsAtoms-insert : (structs : List StructDef) (s : ℕ → ℤ) (atoms : List Atom) (place : ℕ) (atom : Atom) {heap : List Cell} →
    HoldsAtoms structs s (atom ∷ atoms) heap → HoldsAtoms structs s (insert atoms place atom) heap
HoldsAtoms-insert structs s [] zero atom holds = holds
HoldsAtoms-insert structs s [] (suc place) atom holds = holds
HoldsAtoms-insert structs s (first ∷ atoms) zero atom holds = holds
HoldsAtoms-insert structs s (first ∷ atoms) (suc place) atom holds =
    let swapped = IsSum-rebuild holds.2 holds.4.2 in
    let inner : HoldsAtoms structs s (insert atoms place atom) swapped.0 =
    HoldsAtoms-insert structs s atoms place atom (holds.0, holds.4.1, swapped.2, holds.3, holds.4.4) in
    (holds.4.0, swapped.0, swapped.1, holds.4.3, inner)
