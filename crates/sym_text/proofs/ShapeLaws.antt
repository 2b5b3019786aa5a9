-- What is well formed within any limits has the shape that is written.
use Rattle.std.specs.Prelude.{ℕ, List}
use Rattle.std.proofs.lemmas.List.Elements.{All-weaker}
use Rattle.shape_data.specs.declared.program.StructDef.{StructDef}
use Rattle.shape_data.specs.declared.symbolic.Atom.{Atom}
use Rattle.shape_data.specs.declared.symbolic.Atom.TheVariants.{Points, Seg, Junk}
use Rattle.shape_data.specs.WellFormed.{Limits, IsAtom, IsPost}
use Rattle.sym_text.specs.Shape.{IsShaped, IsShapedPost, WellFormedIsShaped, WellFormedSpecIsShaped}

shaped : (limits : Limits) (structs : List StructDef) (params : ℕ) (atom : Atom) → IsAtom limits structs params atom → IsShaped structs atom
shaped limits structs params (Points at kind fields) is = is.1
shaped limits structs params (Seg kind link from to) is = is.0
shaped limits structs params Junk is = tt

pub heap_is_shaped : WellFormedIsShaped
heap_is_shaped limits structs params heap is =
    All-weaker (IsAtom limits structs params) (IsShaped structs) (shaped limits structs params) heap.spatial is.atoms

pub spec_is_shaped : WellFormedSpecIsShaped
spec_is_shaped limits structs params spec is = record {
  pre = heap_is_shaped limits structs params spec.pre is.pre;
  posts =
      All-weaker (IsPost limits structs params) (IsShapedPost structs)
      (λ post formed. heap_is_shaped limits structs params post.heap formed.heap) spec.posts is.posts;
}
