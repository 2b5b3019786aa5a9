-- The sizes of what gets new numbers.
use Rattle.std.specs.Prelude.{◌≡◌, ℕ, ◌+◌, ◌*◌, ◌<◌, ◌≤◌, List, length, All}
use Rattle.shape_data.specs.declared.program.StructDef.{StructDef}
use Rattle.shape_data.specs.declared.symbolic.Exp.{Exp}
use Rattle.shape_data.specs.declared.symbolic.SymHeap.{SymHeap}
use Rattle.shape_data.specs.declared.symbolic.SymState.{SymState}
use Rattle.shape_data.specs.WellFormed.{AreStructs, IsExp, IsPost, IsState, IsSymHeap, Limits, widest}
use Rattle.shape_data.specs.declared.symbolic.Post.{Post}
use Rattle.sym_parts.specs.Laws.Mapped.{on_heap, on_post, on_state}
use Rattle.sym_matching.specs.Answers.{IsBound, MayOccur}
use Rattle.sym_matching.specs.NewVariables.{distinct}
use Rattle.sym_matching.specs.Rooms.{IsSmall, IsWithinSizes}
use Rattle.sym_matching.specs.Variables.{with_binding, with_heap, with_state}
use Rattle.sym_matching.specs.declared.renaming.parts.CalledPre.{CalledPre}
use Rattle.sym_matching.specs.declared.renaming.parts.Numbers.{Numbers}
use Rattle.sym_matching.specs.Renaming.Calls.{called_with, post_in_caller}

-- variables are below 2^31
abbrev pub AreSmall : List ℕ → Type 0
AreSmall names = All (λ x. x < 2147483648) names

-- and so are those of a binding
abbrev pub IsSmallBinding : List (ℕ × Exp) → Type 0
IsSmallBinding binding = All (λ (bound : ℕ × Exp). (bound.0 < 2147483648) × IsSmall bound.1) binding

-- a heap within the sizes has fewer than 131,076,001 variables, doubles counted; a state has one more for each local, a binding two for
-- each
abbrev pub FewHeapVariables : Type 0
FewHeapVariables = (names : List ℕ) (heap : SymHeap) → IsWithinSizes heap → length (with_heap names heap) ≤ length names + 131076000

abbrev pub FewStateVariables : Type 0
FewStateVariables = (names : List ℕ) (state : SymState) → IsWithinSizes state.heap →
    length (with_state names state) ≤ length names + length state.locals + 131076000

abbrev pub FewBindingVariables : Type 0
FewBindingVariables = (names : List ℕ) (binding : List (ℕ × Exp)) → length (with_binding names binding) ≤ length names + 2 * length binding

-- no more variables without doubles than with
abbrev pub FewDistinct : Type 0
FewDistinct = (names : List ℕ) → length (distinct names) ≤ length names

-- what stays small where each expression does: a heap mapped by a function stays within the sizes
abbrev pub MappedIsWithinSizes : Type 0
MappedIsWithinSizes = (f : Exp → Exp) (heap : SymHeap) → ((e : Exp) → IsSmall e → IsSmall (f e)) → IsWithinSizes heap →
    IsWithinSizes (on_heap f heap)

-- a heap, a state, a post mapped by a function whose results may occur are well formed where they were
abbrev pub MappedHeapIsWellFormed : Type 0
MappedHeapIsWellFormed =
    (limits : Limits) (structs : List StructDef) (before after : ℕ) (f : Exp → Exp) (heap : SymHeap) →
    ((e : Exp) → IsExp limits before e → IsExp limits after (f e)) →
    IsSymHeap limits structs before heap → IsSymHeap limits structs after (on_heap f heap)

abbrev pub MappedStateIsWellFormed : Type 0
MappedStateIsWellFormed =
    (limits : Limits) (structs : List StructDef) (before after slots : ℕ) (f : Exp → Exp) (state : SymState) →
    ((e : Exp) → IsExp limits before e → IsExp limits after (f e)) →
    IsState limits structs before slots state → IsState limits structs after slots (on_state f state)

abbrev pub MappedPostIsWellFormed : Type 0
MappedPostIsWellFormed =
    (limits : Limits) (structs : List StructDef) (before after : ℕ) (f : Exp → Exp) (post : Post) →
    ((e : Exp) → IsExp limits before e → IsExp limits after (f e)) →
    IsPost limits structs before post → IsPost limits structs after (on_post f post)

-- what a precondition is matched with in the caller is within the sizes: the heap, the bound variables with the arguments, and the flexible
-- ones
pub record IsCalledWithinSizes (called : CalledPre) : Type 0 where
  pub pre : IsWithinSizes called.pre
  pub bound : IsSmallBinding called.bound
  pub flexible : AreSmall called.flexible

abbrev pub CalledIsWithinSizes : Type 0
CalledIsWithinSizes =
    (used : List ℕ) (args : List Exp) (pre : SymHeap) → length used ≤ 1073741824 → length args ≤ 32768 → All IsSmall args →
    IsWithinSizes pre →
    IsCalledWithinSizes (called_with used args pre)

-- and so is a post in the caller
abbrev pub PostIsWithinSizes : Type 0
PostIsWithinSizes =
    (used : List ℕ) (apart : Numbers) (binding : List (ℕ × Exp)) (post : Post) → length used ≤ 1073741824 → length binding ≤ 268435456 →
    IsSmallBinding binding →
    IsSmall post.ret → IsWithinSizes post.heap →
    IsSmall (post_in_caller used apart binding post).ret × IsWithinSizes (post_in_caller used apart binding post).heap

-- WELL-FORMEDNESS

-- what a precondition is matched with in the caller is well formed: the heap, with as many parts, the variables that are bound, one for
-- each
-- argument, and the flexible ones, no more than variables occur
pub record IsCalledWellFormed (structs : List StructDef) (params : ℕ) (args : List Exp) (pre : SymHeap) (called : CalledPre) : Type 0 where
  pub heap : IsSymHeap widest structs params called.pre
  pub facts : length called.pre.pure ≡ length pre.pure
  pub atoms : length called.pre.spatial ≡ length pre.spatial
  pub bound : All (IsBound widest params) called.bound
  pub one_each : length called.bound ≡ length args
  pub flexible : All (MayOccur widest params) called.flexible
  pub few : length called.flexible ≤ length args + 131076000

abbrev pub CalledIsWellFormed : Type 0
CalledIsWellFormed =
    (structs : List StructDef) (before after : ℕ) (used : List ℕ) (args : List Exp) (pre : SymHeap) → AreStructs structs →
    length used ≤ 1073741824 → length args ≤ 32768 →
    All (IsExp widest after) args → IsSymHeap widest structs before pre →
    IsCalledWellFormed structs after args pre (called_with used args pre)

-- and so is a post in the caller, with as many parts
pub record IsPostWellFormed (structs : List StructDef) (params : ℕ) (post read : Post) : Type 0 where
  pub well_formed : IsPost widest structs params read
  pub facts : length read.heap.pure ≡ length post.heap.pure
  pub atoms : length read.heap.spatial ≡ length post.heap.spatial

abbrev pub PostIsWellFormed : Type 0
PostIsWellFormed =
    (structs : List StructDef) (before after : ℕ) (used : List ℕ) (apart : Numbers) (binding : List (ℕ × Exp)) (post : Post) →
    AreStructs structs → length used ≤ 1073741824 →
    length binding ≤ 268435456 → All (IsBound widest after) binding → IsPost widest structs before post →
    IsPostWellFormed structs after post (post_in_caller used apart binding post)
