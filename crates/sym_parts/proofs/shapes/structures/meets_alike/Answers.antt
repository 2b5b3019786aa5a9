-- One choice of the existential variables serves both lists.
use Rattle.sym_parts.proofs.ShapesLemmas.ContainingHolds.{holds-alike}
use Rattle.sym_parts.proofs.shapes.structures.meets_alike.Goals as goal

pub returns-clause-heap : goal.returns-clause-heap
returns-clause-heap c = λ structs others s heap shape is_heap is_other. (
  λ meets. (meets.0, meets.1, holds-alike structs others meets.0 heap shape is_other meets.2),
  λ meets.
      (meets.0, meets.1, holds-alike others structs meets.0 heap shape is_heap meets.2),
)

pub returns-clause-state : goal.returns-clause-state
returns-clause-state c = λ structs others s locals heap state is_heap is_other. (
  λ meets. (meets.0, meets.1, meets.2, holds-alike structs others meets.0 heap state.heap is_other meets.3),
  λ meets.
      (meets.0, meets.1, meets.2, holds-alike others structs meets.0 heap state.heap is_heap meets.3),
)

pub returns-clause-post : goal.returns-clause-post
returns-clause-post c = λ structs others s ret heap post is_heap is_other. (
  λ meets. (meets.0, meets.1, meets.2, holds-alike structs others meets.0 heap post.heap is_other meets.3),
  λ meets.
      (meets.0, meets.1, meets.2, holds-alike others structs meets.0 heap post.heap is_heap meets.3),
)
