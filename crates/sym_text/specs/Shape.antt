-- What a heap must have to be written: atoms of the shape that their structures give them.
use Rattle.std.specs.Prelude.{◌≡◌, ℕ, ◌<◌, List, length, All}
use Rattle.std.specs.Option.{IsSomeAnd}
use Rattle.shape_data.specs.declared.program.StructDef.{StructDef}
use Rattle.shape_data.specs.declared.symbolic.Atom.{Atom}
use Rattle.shape_data.specs.declared.symbolic.Atom.TheVariants.{Points, Seg, Junk}
use Rattle.shape_data.specs.declared.symbolic.Post.{Post}
use Rattle.shape_data.specs.declared.symbolic.Spec.{Spec}
use Rattle.shape_data.specs.declared.symbolic.SymHeap.{SymHeap}
use Rattle.shape_data.specs.Heap.{struct_named}
use Rattle.shape_data.specs.WellFormed.{Limits, IsSymHeap, IsSpec}

-- a cell has as many fields as its structure, and a segment's link is a field of its structure
abbrev pub IsShaped : List StructDef → Atom → Type 0
IsShaped structs (Points at kind fields) = IsSomeAnd (struct_named structs kind) (λ def. length fields ≡ length def.fields)
IsShaped structs (Seg kind link from to) = IsSomeAnd (struct_named structs kind) (λ def. link < length def.fields)
IsShaped structs Junk = Unit {0}

-- each atom of the heap is so
abbrev pub IsShapedHeap : List StructDef → SymHeap → Type 0
IsShapedHeap structs heap = All (IsShaped structs) heap.spatial

-- the heap of a post is so
abbrev pub IsShapedPost : List StructDef → Post → Type 0
IsShapedPost structs post = IsShapedHeap structs post.heap

-- the heaps of a spec are so
pub record IsShapedSpec (structs : List StructDef) (spec : Spec) : Type 0 where
  pub pre : IsShapedHeap structs spec.pre
  pub posts : All (IsShapedPost structs) spec.posts

-- a heap that is well formed within any limits is so
abbrev pub WellFormedIsShaped : Type 0
WellFormedIsShaped = (limits : Limits) (structs : List StructDef) (params : ℕ) (heap : SymHeap) → IsSymHeap limits structs params heap
    → IsShapedHeap structs heap

-- so are the heaps of a spec that is well formed within any limits
abbrev pub WellFormedSpecIsShaped : Type 0
WellFormedSpecIsShaped = (limits : Limits) (structs : List StructDef) (params : ℕ) (spec : Spec) → IsSpec limits structs params spec
    → IsShapedSpec structs spec
