-- What the coverings ask of their arguments: the sizes that all that is well formed has.
use Rattle.std.specs.Prelude.{ℕ, ◌≤◌, List, length, All}
use Rattle.shape_data.specs.declared.program.StructDef.{StructDef}
use Rattle.shape_data.specs.declared.symbolic.Post.{Post}
use Rattle.shape_data.specs.declared.symbolic.SymState.{SymState}
use Rattle.shape_data.specs.WellFormed.{AreStructs, IsPost, IsState, widest}
use Rattle.sym_matching.specs.Rooms.{IsSmall, IsWithinSizes}

-- the heap is within the sizes, the variables of the locals are below 2^31, and there are no more locals than a procedure may
-- have slots
pub record IsStateWithinSizes (state : SymState) : Type 0 where
  pub locals : All IsSmall state.locals
  pub few : length state.locals ≤ 32768
  pub heap : IsWithinSizes state.heap

-- the heap is within the sizes, and a variable as result below 2^31
pub record IsPostWithinSizes (post : Post) : Type 0 where
  pub ret : IsSmall post.ret
  pub heap : IsWithinSizes post.heap

-- LAWS

-- each well-formed state of a procedure is within the sizes
abbrev pub WellFormedStateIsWithinSizes : Type 0
WellFormedStateIsWithinSizes =
    (structs : List StructDef) (params slots : ℕ) (state : SymState) → AreStructs structs → slots ≤ 32768
    → IsState widest structs params slots state → IsStateWithinSizes state

-- each well-formed post is within the sizes
abbrev pub WellFormedPostIsWithinSizes : Type 0
WellFormedPostIsWithinSizes = (structs : List StructDef) (params : ℕ) (post : Post) → AreStructs structs → IsPost widest structs params post
    → IsPostWithinSizes post
