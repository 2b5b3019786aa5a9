-- What a sample is good for.
use Rattle.std.specs.Prelude.{◌≡◌, ℕ, ◌<◌, ℤ, pos, ◌<ℤ◌, true, List, length, All}
use Rattle.std.specs.Option.{IsSomeAnd}
use Rattle.shape_data.specs.declared.program.StructDef.{StructDef}
use Rattle.shape_data.specs.declared.symbolic.Atom.{Atom}
use Rattle.shape_data.specs.declared.symbolic.Atom.TheVariants.{Points, Seg, Junk}
use Rattle.shape_data.specs.declared.symbolic.Exp.{Exp}
use Rattle.shape_data.specs.declared.symbolic.Exp.TheVariants.{Var, Const}
use Rattle.shape_data.specs.declared.symbolic.SymHeap.{SymHeap}
use Rattle.shape_data.specs.Meaning.{Meets}
use Rattle.shape_data.specs.Heap.{struct_named}
use Rattle.shape_data.specs.WellFormed.{IsSymHeap, Limits}
use Rattle.sym_parts.specs.Laws.Each.{EachInFact}
use Rattle.sym_samples.specs.Samples.{has_sample, heap_of, number_of}

-- the expression is a variable, or a constant below 2^32, as all 32-bit ones are
abbrev pub IsLow : Exp → Type 0
IsLow (Var x) = Unit {0}
IsLow (Const n) = n <ℤ pos 4294967296

-- a cell has as many fields as its structure, and a segment's link is a field of its structure
abbrev pub IsShaped : List StructDef → Atom → Type 0
IsShaped structs (Points at kind fields) = IsSomeAnd (struct_named structs kind) (λ def. length fields ≡ length def.fields)
IsShaped structs (Seg kind link from to) = IsSomeAnd (struct_named structs kind) (λ def. link < length def.fields)
IsShaped structs Junk = Unit {0}

-- the atoms of each well-formed heap are so
abbrev pub WellFormedIsShaped : Type 0
WellFormedIsShaped = (limits : Limits) (structs : List StructDef) (params : ℕ) (heap : SymHeap) → IsSymHeap limits structs params heap →
    All (IsShaped structs) heap.spatial

-- a normal heap whose sources are pairwise distinct variables is met by the cells of its atoms
abbrev pub NormalIsMet : Type 0
NormalIsMet =
    (structs : List StructDef) (pre : SymHeap) → All (IsShaped structs) pre.spatial → All (EachInFact IsLow) pre.pure →
    has_sample pre ≡ true →
    Meets structs (number_of pre.pure) (heap_of structs (number_of pre.pure) pre.spatial) pre
