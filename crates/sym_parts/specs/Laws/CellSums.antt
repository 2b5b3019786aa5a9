-- The machine's changes of a heap as sums: a cell put beside a heap, taken from it, and written into.
use Rattle.std.specs.Prelude.{◌≡◌, ℕ, ℤ, pos, ◌<ℤ◌, List, [], ◌∷◌, slice_set}
use Rattle.std.specs.declared.option.Option.TheVariants.{None}
use Rattle.shape_data.specs.declared.machine.Cell.{Cell}
use Rattle.shape_data.specs.declared.program.StructDef.{StructDef}
use Rattle.shape_data.specs.Heap.{cell_at, put, without, with_field, HasShape, IsHeap, IsSum}

-- a new cell beside a heap makes the heap with the cell put in
abbrev pub PutIsSum : Type 0
PutIsSum =
    (structs : List StructDef) (cell : Cell) (heap : List Cell) → pos 0 <ℤ cell.at → HasShape structs cell → cell_at heap cell.at ≡ None →
    IsHeap structs heap →
    IsSum structs (put cell heap) (cell ∷ []) heap

-- a heap of a cell and others, without the cell, is the others
abbrev pub WithoutIsRest : Type 0
WithoutIsRest = (structs : List StructDef) (cell : Cell) (whole rest : List Cell) → IsSum structs whole (cell ∷ []) rest →
    without cell.at whole ≡ rest

-- a number written into a field of a cell is written into the heap of the cell and others
abbrev pub WrittenIsSum : Type 0
WrittenIsSum =
    (structs : List StructDef) (cell : Cell) (whole rest : List Cell) (field : ℕ) (number : ℤ) → IsSum structs whole (cell ∷ []) rest →
    IsSum structs (with_field whole cell.at field number) (record cell { fields = slice_set cell.fields field number } ∷ []) rest
