-- A sample of a heap: numbers for its variables, and a concrete heap that meets it under them.
-- A variable that no equation solves gets 2^32 and its own number: so different expressions have different numbers, none of
-- these is a 32-bit constant, and each is a positive address. Each segment gets one cell, which stands at its start and leads
-- to its end.
use Rattle.std.specs.Prelude.{ℕ, zero, suc, ◌+◌, ℤ, pos, Bool, true, false, not, ◌&&◌, ◌==◌, if◌then◌else◌, List, [], ◌∷◌, map, slice_set}
use Rattle.std.specs.List.{list_all}
use Rattle.std.specs.declared.option.Option.{Option}
use Rattle.std.specs.declared.option.Option.TheVariants.{None, Some}
use Rattle.shape_data.specs.declared.machine.Cell.{Cell}
use Rattle.shape_data.specs.declared.program.Field.{Field}
use Rattle.shape_data.specs.declared.program.StructDef.{StructDef}
use Rattle.shape_data.specs.declared.symbolic.Atom.{Atom}
use Rattle.shape_data.specs.declared.symbolic.Atom.TheVariants.{Points, Seg, Junk}
use Rattle.shape_data.specs.declared.symbolic.Exp.{Exp}
use Rattle.shape_data.specs.declared.symbolic.Exp.TheVariants.{Var, Const}
use Rattle.shape_data.specs.declared.symbolic.Fact.{Fact}
use Rattle.shape_data.specs.declared.symbolic.Fact.TheVariants.{Eq, Ne}
use Rattle.shape_data.specs.declared.symbolic.SymHeap.{SymHeap}
use Rattle.shape_data.specs.Heap.{put, struct_named}
use Rattle.shape_data.specs.Meaning.{value}
use Rattle.sym_parts.specs.Laws.Expressions.{has_double}
use Rattle.sym_pure.specs.IsNormal.{is_normal_heap}

-- the sources of atoms: the addresses of cells and the starts of segments
abbrev pub starts : List Atom → List Exp
starts [] = []
starts (Points at kind fields ∷ atoms) = at ∷ starts atoms
starts (Seg kind link from to ∷ atoms) = from ∷ starts atoms
starts (Junk ∷ atoms) = starts atoms

-- the expression is a variable
abbrev pub is_variable : Exp → Bool
is_variable (Var x) = true
is_variable (Const n) = false

-- the sources of the heap's atoms are pairwise distinct variables
abbrev pub has_plain_sources : SymHeap → Bool
has_plain_sources pre = list_all is_variable (starts pre.spatial) && not (has_double (starts pre.spatial))

-- the heap is normal, and has plain sources
abbrev pub has_sample : SymHeap → Bool
has_sample pre = is_normal_heap pre && has_plain_sources pre

-- the number of a variable that no equation solves
abbrev pub plain : ℕ → ℤ
plain x = pos (4294967296 + x)

-- the number of a variable, by the facts: that of what its equation says, or else its plain one
abbrev pub number_of : List Fact → ℕ → ℤ
number_of [] x = plain x
number_of (Eq (Var y) right ∷ facts) x = if y == x then value plain right else number_of facts x
number_of (Eq (Const n) right ∷ facts) x = number_of facts x
number_of (Ne left right ∷ facts) x = number_of facts x

-- the numbers of the first variables, from one on
abbrev pub numbers_from : List Fact → ℕ → ℕ → List ℤ
numbers_from facts zero x = []
numbers_from facts (suc count) x = number_of facts x ∷ numbers_from facts count (x + 1)

-- a 0 for each field of a structure
abbrev pub zeros : Option StructDef → List ℤ
zeros None = []
zeros (Some def) = map (λ (field : Field). pos 0) def.fields

-- the cell of an atom: for a segment one whose link holds the end, and whose other fields are 0
abbrev pub cell_of : List StructDef → (ℕ → ℤ) → Atom → Option Cell
cell_of structs s (Points at kind fields) = Some record { at = value s at; kind = kind; fields = map (value s) fields }
cell_of structs s (Seg kind link from to) =
    Some record { at = value s from; kind = kind; fields = slice_set (zeros (struct_named structs kind)) link (value s to) }
cell_of structs s Junk = None

-- the heap with a cell, if there is one
abbrev pub with_cell : Option Cell → List Cell → List Cell
with_cell None heap = heap
with_cell (Some cell) heap = put cell heap

-- the cells of atoms
abbrev pub heap_of : List StructDef → (ℕ → ℤ) → List Atom → List Cell
heap_of structs s [] = []
heap_of structs s (atom ∷ atoms) = with_cell (cell_of structs s atom) (heap_of structs s atoms)
