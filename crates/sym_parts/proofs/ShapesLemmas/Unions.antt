-- The union of two heaps, and its laws.
use Rattle.std.specs.Prelude.{◌≡◌, ℤ, Bool, true, false, List, [], ◌∷◌}
use Rattle.std.proofs.Common.{refl}
use Rattle.std.specs.Ordering.{int_eq}
use Rattle.std.specs.declared.option.Option.TheVariants.{Some}
use Rattle.std.proofs.lemmas.Bool.Decides.{Decides-int_eq}
use Rattle.shape_data.specs.declared.machine.Cell.{Cell}
use Rattle.shape_data.specs.Heap.{cell_at, put, union, first_of_two}
use Rattle.sym_parts.proofs.ShapesLemmas.Cells.{cell_at-put_same, cell_at-put_other}

pub cell_at-union : (left right : List Cell) (at : ℤ) → cell_at (union left right) at ≡ first_of_two (cell_at left at) (cell_at right at)
cell_at-union [] right at = refl
cell_at-union (cell ∷ cells) right at = by_test (cell_at-union cells right at) (int_eq cell.at at) refl
  where
    by_test : cell_at (union cells right) at ≡ first_of_two (cell_at cells at) (cell_at right at) → (b : Bool) → int_eq cell.at at ≡ b →
        cell_at (union (cell ∷ cells) right) at ≡ first_of_two (cell_at (cell ∷ cells) at) (cell_at right at)
    by_test later true e =
        let same : cell.at ≡ at = (Decides-int_eq cell.at at).0 e in
        let here : cell_at (put cell (union cells right)) at ≡ Some cell = rw (← same) (cell_at-put_same cell (union cells right)) in
        simp (e, here)
    by_test later false e = simp (e, cell_at-put_other cell (union cells right) at e, later)
