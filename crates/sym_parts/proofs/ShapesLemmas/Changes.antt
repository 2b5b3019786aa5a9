-- A change of a heap at one address is the same change of its sum with a frame that has no cell there.
use Rattle.std.specs.Prelude.{◌≡◌, ℕ, ℤ, pos, ◌<ℤ◌, Bool, true, false, List, IsSome}
use Rattle.std.specs.Ordering.{int_eq}
use Rattle.std.specs.declared.option.Option.TheVariants.{None}
use Rattle.std.proofs.Common.{refl, sym, ap, ◌∙◌}
use Rattle.std.proofs.lemmas.Bool.Decides.{Decides-int_eq}
use Rattle.shape_data.specs.declared.machine.Cell.{Cell}
use Rattle.shape_data.specs.declared.program.StructDef.{StructDef}
use Rattle.shape_data.specs.Heap.{cell_at, put, without, with_field, first_of_two, HasShape, IsHeap, IsSum}
use Rattle.sym_parts.proofs.ShapesLemmas.Cells.{cell_at-put_same, cell_at-put_other, cell_at-without_same, cell_at-without_other}
use Rattle.sym_parts.proofs.ShapesLemmas.Cells.{
  cell_at-with_field_same,
  cell_at-with_field_other,
  with_number,
  first_right_none,
  IsHeap-put,
}
use Rattle.sym_parts.proofs.ShapesLemmas.Cells.{IsHeap-without, IsHeap-with_field}

-- where the frame has no cell, the whole has that of the part
pub IsSum-cell_outside : {structs : List StructDef} {whole own frame : List Cell} → IsSum structs whole own frame → (at : ℤ) →
    cell_at frame at ≡ None → cell_at whole at ≡ cell_at own at
IsSum-cell_outside {structs} {whole} {own} {frame} sum at none = sum.cells at ∙ first_right_none (cell_at own at) (cell_at frame at) none

-- a change at one address outside the frame, alike in the part and the whole
pub IsSum-changed : {structs : List StructDef} {whole own frame : List Cell} (at : ℤ) (new_whole new_own : List Cell) →
    IsSum structs whole own frame → cell_at frame at ≡ None → IsHeap structs new_whole → IsHeap structs new_own →
    cell_at new_whole at ≡ cell_at new_own at →
    ((other : ℤ) → int_eq at other ≡ false → cell_at new_whole other ≡ cell_at whole other) →
    ((other : ℤ) → int_eq at other ≡ false → cell_at new_own other ≡ cell_at own other) →
    IsSum structs new_whole new_own frame
IsSum-changed {structs} {whole} {own} {frame} at new_whole new_own sum none whole_is own_is alike whole_stays own_stays = record {
  is_heap = whole_is;
  left_is_heap = own_is;
  right_is_heap = sum.right_is_heap;
  cells = λ other. cells_at other (int_eq at other) refl;
  apart = λ other. apart_at other (int_eq at other) refl;
}
  where
    cells_at : (other : ℤ) (b : Bool) → int_eq at other ≡ b →
        cell_at new_whole other ≡ first_of_two (cell_at new_own other) (cell_at frame other)
    cells_at other true e =
        let same : at ≡ other = (Decides-int_eq at other).0 e in
        rw (← same) (alike ∙ sym (first_right_none (cell_at new_own at) (cell_at frame at) none))
    cells_at other false e = rw (whole_stays other e, own_stays other e) (sum.cells other)

    apart_at : (other : ℤ) (b : Bool) → int_eq at other ≡ b → IsSome (cell_at new_own other) → cell_at frame other ≡ None
    apart_at other true e some = let same : at ≡ other = (Decides-int_eq at other).0 e in rw (← same) none
    apart_at other false e some = sum.apart other (rw (own_stays other e) at some)

pub IsSum-put : {structs : List StructDef} {whole own frame : List Cell} (cell : Cell) → pos 0 <ℤ cell.at → HasShape structs cell →
    cell_at frame cell.at ≡ None →
    IsSum structs whole own frame → IsSum structs (put cell whole) (put cell own) frame
IsSum-put {structs} {whole} {own} {frame} cell above has_shape none sum =
    IsSum-changed cell.at (put cell whole) (put cell own) sum none (IsHeap-put cell above has_shape sum.is_heap)
    (IsHeap-put cell above has_shape sum.left_is_heap)
    (cell_at-put_same cell whole ∙ sym (cell_at-put_same cell own)) (cell_at-put_other cell whole) (cell_at-put_other cell own)

pub IsSum-without : {structs : List StructDef} {whole own frame : List Cell} (at : ℤ) → cell_at frame at ≡ None →
    IsSum structs whole own frame → IsSum structs (without at whole) (without at own) frame
IsSum-without {structs} {whole} {own} {frame} at none sum =
    IsSum-changed at (without at whole) (without at own) sum none (IsHeap-without at sum.is_heap) (IsHeap-without at sum.left_is_heap)
    (cell_at-without_same (pos 0) at whole sum.is_heap.rising ∙ sym (cell_at-without_same (pos 0) at own sum.left_is_heap.rising))
    (cell_at-without_other at whole) (cell_at-without_other at own)

pub IsSum-with_field : {structs : List StructDef} {whole own frame : List Cell} (at : ℤ) (field : ℕ) (value : ℤ) → cell_at frame at ≡ None →
    IsSum structs whole own frame → IsSum structs (with_field whole at field value) (with_field own at field value) frame
IsSum-with_field {structs} {whole} {own} {frame} at field value none sum =
    IsSum-changed at (with_field whole at field value) (with_field own at field value) sum none
    (IsHeap-with_field at field value sum.is_heap) (IsHeap-with_field at field value sum.left_is_heap)
    (cell_at-with_field_same whole at field value ∙ ap (with_number field value) (IsSum-cell_outside sum at none)
    ∙ sym (cell_at-with_field_same own at field value))
    (cell_at-with_field_other whole at field value) (cell_at-with_field_other own at field value)
