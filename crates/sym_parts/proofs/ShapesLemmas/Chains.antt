-- Chains of cells, over the values of their ends.
use Rattle.std.specs.Prelude.{◌≡◌, ◌≢◌, ℕ, suc, zero, ℤ, pos, List, [], ◌∷◌, ◌++◌, map, slice_index_or}
use Rattle.std.proofs.Common.{refl, sym, ap, ◌∙◌}
use Rattle.std.specs.declared.option.Option.TheVariants.{Some}
use Rattle.shape_data.specs.declared.machine.Cell.{Cell}
use Rattle.shape_data.specs.declared.program.StructDef.{StructDef}
use Rattle.shape_data.specs.declared.symbolic.Atom.TheVariants.{Points, Seg}
use Rattle.shape_data.specs.declared.symbolic.Exp.{Exp}
use Rattle.shape_data.specs.declared.symbolic.Exp.TheVariants.{Const}
use Rattle.shape_data.specs.Heap.{IsHeap, IsSum, cell_at}
use Rattle.shape_data.specs.Meaning.{value, IsChain, IsSumOf, HoldsAtom}
use Rattle.sym_parts.proofs.ShapesLemmas.Sums.{IsHeap-empty, IsSum-unit_right, IsSum-empty_left, IsSum-to_right, IsSum-cell_left, at_first}

-- a heap is exactly the cells of a chain
abbrev pub IsSegment : List StructDef → List ℕ → ℕ → ℤ → ℤ → List Cell → Type 0
IsSegment structs kind link from to heap = (cells : List Cell) × IsChain kind link from to cells × IsSumOf structs cells heap

pub IsSegment-empty : (structs : List StructDef) (kind : List ℕ) (link : ℕ) (from to : ℤ) → from ≡ to →
    IsSegment structs kind link from to []
IsSegment-empty structs kind link from to same = ([], same, refl)

-- one cell
pub IsSegment-cell : (structs : List StructDef) (link : ℕ) (cell : Cell) → IsHeap structs (cell ∷ []) →
    IsSegment structs cell.kind link cell.at (slice_index_or cell.fields link (pos 0)) (cell ∷ [])
IsSegment-cell structs link cell is_heap = (cell ∷ [], (refl, refl, refl), ([], IsSum-unit_right is_heap, refl))

-- a chain whose ends differ has a first cell
pub IsSegment-first : (structs : List StructDef) (kind : List ℕ) (link : ℕ) (from to : ℤ) (heap : List Cell) → from ≢ to →
    IsSegment structs kind link from to heap →
    (cell : Cell) × (others : List Cell) × IsSum structs heap (cell ∷ []) others × (cell.at ≡ from) × (cell.kind ≡ kind)
    × IsSegment structs kind link (slice_index_or cell.fields link (pos 0)) to others
IsSegment-first structs kind link from to heap apart segment = by_cells segment.0 segment.1 segment.2
  where
    by_cells : (cells : List Cell) → IsChain kind link from to cells → IsSumOf structs cells heap →
        (cell : Cell) × (others : List Cell) × IsSum structs heap (cell ∷ []) others × (cell.at ≡ from) × (cell.kind ≡ kind)
        × IsSegment structs kind link (slice_index_or cell.fields link (pos 0)) to others
    by_cells [] chain parts = absurd (apart chain)
    by_cells (cell ∷ cells) chain parts = (cell, parts.0, parts.1, chain.0, chain.1, (cells, chain.2, parts.2))

IsSumOf-is_heap : (structs : List StructDef) (cells heap : List Cell) → IsSumOf structs cells heap → IsHeap structs heap
IsSumOf-is_heap structs [] heap parts = rw parts (IsHeap-empty structs)
IsSumOf-is_heap structs (cell ∷ cells) heap parts = parts.1.is_heap

pub IsSegment-is_heap : (structs : List StructDef) (kind : List ℕ) (link : ℕ) (from to : ℤ) (heap : List Cell) →
    IsSegment structs kind link from to heap → IsHeap structs heap
IsSegment-is_heap structs kind link from to heap segment = IsSumOf-is_heap structs segment.0 heap segment.2

IsChain-append : (kind : List ℕ) (link : ℕ) (from mid to : ℤ) (first second : List Cell) → IsChain kind link from mid first →
    IsChain kind link mid to second → IsChain kind link from to (first ++ second)
IsChain-append kind link from mid to [] second one other = rw one other
IsChain-append kind link from mid to (cell ∷ cells) second one other =
    (one.0, one.1, IsChain-append kind link (slice_index_or cell.fields link (pos 0)) mid to cells second one.2 other)

IsSumOf-append : (structs : List StructDef) (first second : List Cell) (whole left right : List Cell) → IsSum structs whole left right →
    IsSumOf structs first left → IsSumOf structs second right →
    IsSumOf structs (first ++ second) whole
IsSumOf-append structs [] second whole left right sum one other =
    let empty : IsSum structs whole [] right = rw one at sum in
    rw (IsSum-empty_left empty) other
IsSumOf-append structs (cell ∷ cells) second whole left right sum one other =
    let split = IsSum-to_right sum one.1 in
    (split.0, split.1, IsSumOf-append structs cells second split.0 one.0 right split.2 one.2 other)

-- two chains, one after the other
pub IsSegment-append : (structs : List StructDef) (kind : List ℕ) (link : ℕ) (from mid to : ℤ) (whole left right : List Cell) →
    IsSum structs whole left right →
    IsSegment structs kind link from mid left → IsSegment structs kind link mid to right → IsSegment structs kind link from to whole
IsSegment-append structs kind link from mid to whole left right sum one other = (
  one.0 ++ other.0,
  IsChain-append kind link from mid to one.0 other.0 one.1 other.1,
  IsSumOf-append structs one.0 other.0 whole left
      right sum one.2 other.2,
)

-- a cell before a chain
pub IsSegment-cons : (structs : List StructDef) (link : ℕ) (cell : Cell) (to : ℤ) (whole right : List Cell) →
    IsSum structs whole (cell ∷ []) right →
    IsSegment structs cell.kind link (slice_index_or cell.fields link (pos 0)) to right → IsSegment structs cell.kind link cell.at to whole
IsSegment-cons structs link cell to whole right sum other =
    IsSegment-append structs cell.kind link cell.at (slice_index_or cell.fields link (pos 0)) to whole (cell ∷ []) right sum
    (IsSegment-cell structs link cell sum.left_is_heap) other

pub link-value : (s : ℕ → ℤ) (fields : List Exp) (link : ℕ) →
    slice_index_or (map (value s) fields) link (pos 0) ≡ value s (slice_index_or fields link (Const (pos 0)))
link-value s [] link = refl
link-value s (e ∷ es) zero = refl
link-value s (e ∷ es) (suc link) = link-value s es link

-- a cell as a chain
pub Points-segment : (structs : List StructDef) (s : ℕ → ℤ) (at : Exp) (kind : List ℕ) (fields : List Exp) (link : ℕ) (heap : List Cell) →
    IsHeap structs heap → HoldsAtom structs s (Points at kind fields) heap →
    IsSegment structs kind link (value s at) (value s (slice_index_or fields link (Const (pos 0)))) heap
Points-segment structs s at kind fields link heap is_heap holds =
    let one : IsHeap structs (record { at = value s at; kind = kind; fields = map (value s) fields } ∷ []) = rw holds at is_heap in
    rw (holds, ← link-value s fields link)
    (IsSegment-cell structs link (record { at = value s at; kind = kind; fields = map (value s) fields }) one)

-- the cell of a cell's atom, and the first of a chain, stand in the heap
pub Points-cell : (structs : List StructDef) (s : ℕ → ℤ) (at : Exp) (kind : List ℕ) (fields : List Exp) (heap : List Cell) →
    HoldsAtom structs s (Points at kind fields) heap →
    (cell : Cell) × (cell_at heap (value s at) ≡ Some cell)
Points-cell structs s at kind fields heap holds =
    let cell : Cell = record { at = value s at; kind = kind; fields = map (value s) fields } in
    (cell, rw holds (at_first cell []))

pub Seg-cell : (structs : List StructDef) (s : ℕ → ℤ) (kind : List ℕ) (link : ℕ) (from to : Exp) (heap : List Cell) →
    value s from ≢ value s to → HoldsAtom structs s (Seg kind link from to) heap →
    (cell : Cell) × (cell_at heap (value s from) ≡ Some cell)
Seg-cell structs s kind link from to heap apart holds =
    let first = IsSegment-first structs kind link (value s from) (value s to) heap apart holds in
    (first.0, ap (cell_at heap) (sym first.3) ∙ IsSum-cell_left first.2 first.0.at first.0 (at_first first.0 []))
