-- The shapes of a heap's cells, and of those of its parts.
use Rattle.std.specs.Prelude.{◌≡◌, ℤ, pos, ◌<ℤ◌, ◌≤ℤ◌, int_lt, Bool, true, false, List, [], ◌∷◌}
use Rattle.std.proofs.Common.{refl, sym, subst, ◌∙◌, arith}
use Rattle.std.specs.Ordering.{int_eq}
use Rattle.std.specs.declared.option.Option.TheVariants.{None, Some}
use Rattle.std.proofs.lemmas.Int.{ints}
use Rattle.shape_data.specs.declared.machine.Cell.{Cell}
use Rattle.shape_data.specs.declared.program.StructDef.{StructDef}
use Rattle.shape_data.specs.Heap.{cell_at, AreRising, HasShape, HaveShapes, IsHeap, IsSum}
use Rattle.sym_parts.proofs.ShapesLemmas.Cells.{low_none}
use Rattle.sym_parts.proofs.ShapesLemmas.Sums.{at_first, at_later, IsHeap-union, IsSum-cell_left, IsSum-cell_right, IsSum-is_union}

-- the cell at an address has its shape
pub HaveShapes-at : (structs : List StructDef) (heap : List Cell) (at : ℤ) (cell : Cell) → HaveShapes structs heap
    → cell_at heap at ≡ Some cell → HasShape structs cell
HaveShapes-at structs [] at cell all is = cc
HaveShapes-at structs (first ∷ others) at cell all is = by_test (HaveShapes-at structs others at cell all.1) (int_eq first.at at) refl
  where
    by_test : (cell_at others at ≡ Some cell → HasShape structs cell) → (b : Bool) → int_eq first.at at ≡ b → HasShape structs cell
    by_test later true e =
        let here : Some first ≡ Some cell = rw e at is in
        let same : first ≡ cell = cc in
        subst (λ one. HasShape structs one) same all.0
    by_test later false e = let there : cell_at others at ≡ Some cell = rw e at is in later there

-- where the cell at each address has its shape, all have
pub HaveShapes-of : (structs : List StructDef) (low : ℤ) (heap : List Cell) → AreRising low heap
    → ((at : ℤ) (cell : Cell) → cell_at heap at ≡ Some cell → HasShape structs cell) → HaveShapes structs heap
HaveShapes-of structs low [] rising each = tt
HaveShapes-of structs low (cell ∷ cells) rising each = (
  each cell.at cell (at_first cell cells),
  HaveShapes-of structs cell.at cells rising.1
      (λ at other is. each at other (later at other is)),
)
  where
    later : (at : ℤ) (other : Cell) → cell_at cells at ≡ Some other → cell_at (cell ∷ cells) at ≡ Some other
    later at other is = by_test (int_lt cell.at at) refl
      where
        by_test : (b : Bool) → int_lt cell.at at ≡ b → cell_at (cell ∷ cells) at ≡ Some other
        by_test true e = let above : cell.at <ℤ at = grind (arith, ints) in at_later cell cells at above ∙ is
        by_test false e =
            let under : at ≤ℤ cell.at = grind (arith, ints) in
            let none : None ≡ Some other = sym (low_none cell.at at cells rising.1 under) ∙ is in
            cc

-- a sum whose whole is a heap over other structures is a sum over those: its parts have no other cells
pub IsSum-over_whole : (structs others : List StructDef) (whole left right : List Cell) → IsHeap others whole
    → IsSum structs whole left right → IsSum others whole left right
IsSum-over_whole structs others whole left right is_heap sum = record {
  is_heap = is_heap;
  left_is_heap = record {
    rising = sum.left_is_heap.rising;
    shaped =
        HaveShapes-of others (pos 0) left sum.left_is_heap.rising
        (λ at cell is. HaveShapes-at others whole at cell is_heap.shaped (IsSum-cell_left sum at cell is));
  };
  right_is_heap = record {
    rising = sum.right_is_heap.rising;
    shaped =
        HaveShapes-of others (pos 0) right sum.right_is_heap.rising
        (λ at cell is. HaveShapes-at others whole at cell is_heap.shaped (IsSum-cell_right sum at cell is));
  };
  cells = sum.cells;
  apart = sum.apart;
}

-- and so is one whose parts are heaps over other structures
pub IsSum-over_parts : (structs others : List StructDef) (whole left right : List Cell) → IsHeap others left → IsHeap others right
    → IsSum structs whole left right → IsSum others whole left right
IsSum-over_parts structs others whole left right is_left is_right sum = record {
  is_heap = subst (λ heap. IsHeap others heap) (sym (IsSum-is_union sum)) (IsHeap-union others left right is_left is_right);
  left_is_heap = is_left;
  right_is_heap = is_right;
  cells = sum.cells;
  apart = sum.apart;
}
