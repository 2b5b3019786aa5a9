-- The machine's changes of a heap as sums.
use Rattle.std.specs.Prelude.{◌≡◌, ℤ, true, List, [], ◌∷◌, slice_set}
use Rattle.std.proofs.Common.{refl}
use Rattle.std.specs.Ordering.{int_eq}
use Rattle.std.specs.declared.option.Option.TheVariants.{None}
use Rattle.std.proofs.lemmas.Bool.Decides.{Decides-int_eq}
use Rattle.shape_data.specs.declared.machine.Cell.{Cell}
use Rattle.shape_data.specs.declared.program.StructDef.{StructDef}
use Rattle.shape_data.specs.Heap.{cell_at, without, with_field, IsSum}
use Rattle.sym_parts.proofs.ShapesLemmas.Changes.{IsSum-put, IsSum-without, IsSum-with_field}
use Rattle.sym_parts.proofs.ShapesLemmas.Sums.{IsSum-unit, IsSum-empty_left, at_first}
use Rattle.sym_parts.specs.Laws.CellSums.{PutIsSum, WithoutIsRest, WrittenIsSum}
use Rattle.sym_parts.proofs.LawsLemmas.AddressLemmas.{some_there}

at_itself : (at : ℤ) → int_eq at at ≡ true
at_itself at = (Decides-int_eq at at).1 refl

pub put_is_sum : PutIsSum
put_is_sum structs cell heap above shape none is_heap = IsSum-put cell above shape none (IsSum-unit is_heap)

-- the other part has no cell at the address
outside : {structs : List StructDef} (cell : Cell) (whole rest : List Cell) → IsSum structs whole (cell ∷ []) rest
    → cell_at rest cell.at ≡ None
outside cell whole rest sum = sum.apart cell.at (some_there (cell_at (cell ∷ []) cell.at) cell (at_first cell []))

pub without_is_rest : WithoutIsRest
without_is_rest structs cell whole rest sum =
    let gone : without cell.at (cell ∷ []) ≡ [] = simp (at_itself cell.at) in
    IsSum-empty_left {structs = structs} (rw gone at (IsSum-without cell.at (outside cell whole rest sum) sum))

pub written_is_sum : WrittenIsSum
written_is_sum structs cell whole rest field number sum =
    let written : with_field (cell ∷ []) cell.at field number ≡ record cell { fields = slice_set cell.fields field number } ∷ [] =
    simp (at_itself cell.at) in
    rw written at (IsSum-with_field cell.at field number (outside cell whole rest sum) sum)
