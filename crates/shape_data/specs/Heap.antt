-- Heaps: finite maps from positive addresses to cells, kept as the list of the cells in rising order of address.
use Rattle.std.specs.Prelude.{◌≡◌, ℕ, ℤ, pos, ◌<ℤ◌, int_lt, if◌then◌else◌, List, [], ◌∷◌, length, IsSome, slice_set}
use Rattle.std.specs.List.{find}
use Rattle.std.specs.Option.{IsSomeAnd}
use Rattle.std.specs.Ordering.{int_eq}
use Rattle.std.specs.Str.{bytes_eq}
use Rattle.std.specs.declared.option.Option.{Option}
use Rattle.std.specs.declared.option.Option.TheVariants.{None, Some}
use Rattle.shape_data.specs.declared.machine.Cell.{Cell}
use Rattle.shape_data.specs.declared.program.StructDef.{StructDef}

-- the cell at an address
abbrev pub cell_at : List Cell → ℤ → Option Cell
cell_at heap at = find (λ cell. int_eq cell.at at) heap

-- the heap with this cell at its address
abbrev pub put : Cell → List Cell → List Cell
put cell [] = cell ∷ []
put cell (first ∷ others) =
    if int_lt cell.at first.at
    then cell ∷ first ∷ others
    else (if int_eq first.at cell.at then cell ∷ others else first ∷ put cell others)

-- the heap with no cell at the address
abbrev pub without : ℤ → List Cell → List Cell
without at [] = []
without at (first ∷ others) = if int_eq first.at at then others else first ∷ without at others

-- the heap with a number in a field of the cell at an address
abbrev pub with_field : List Cell → ℤ → ℕ → ℤ → List Cell
with_field [] at field value = []
with_field (first ∷ others) at field value =
    if int_eq first.at at
    then record first { fields = slice_set first.fields field value } ∷ others
    else first ∷ with_field others at field value

-- the union of two heaps: the cells of the left one, put into the right one. Meanings speak of it only where the two
-- are disjoint (`IsSum`)
abbrev pub union : List Cell → List Cell → List Cell
union [] right = right
union (cell ∷ cells) right = put cell (union cells right)

-- the structure of a name
abbrev pub struct_named : List StructDef → List ℕ → Option StructDef
struct_named structs name = find (λ def. bytes_eq def.name name) structs

-- each address is above the one before it, and the first is above a bound
abbrev pub AreRising : ℤ → List Cell → Type 0
AreRising low [] = Unit {0}
AreRising low (cell ∷ cells) = (low <ℤ cell.at) × AreRising cell.at cells

-- the structure of the cell's kind is listed, and the cell has one number per field of it
abbrev pub HasShape : List StructDef → Cell → Type 0
HasShape structs cell = IsSomeAnd (struct_named structs cell.kind) (λ def. length cell.fields ≡ length def.fields)

-- each cell has the shape of its structure
abbrev pub HaveShapes : List StructDef → List Cell → Type 0
HaveShapes structs [] = Unit {0}
HaveShapes structs (cell ∷ cells) = HasShape structs cell × HaveShapes structs cells

-- a heap over a list of structures
pub record IsHeap (structs : List StructDef) (heap : List Cell) : Type 0 where
  pub rising : AreRising (pos 0) heap
  pub shaped : HaveShapes structs heap

-- no address has a cell in both heaps
abbrev pub Disjoint : List Cell → List Cell → Type 0
Disjoint left right = (at : ℤ) → IsSome (cell_at left at) → cell_at right at ≡ None

-- the first of two that is there
abbrev pub first_of_two : Option Cell → Option Cell → Option Cell
first_of_two None other = other
first_of_two (Some cell) other = Some cell

-- `whole` is the sum of two disjoint heaps: it has the cells of both, and no others
pub record IsSum (structs : List StructDef) (whole left right : List Cell) : Type 0 where
  pub is_heap : IsHeap structs whole
  pub left_is_heap : IsHeap structs left
  pub right_is_heap : IsHeap structs right
  pub cells : (at : ℤ) → cell_at whole at ≡ first_of_two (cell_at left at) (cell_at right at)
  pub apart : Disjoint left right
