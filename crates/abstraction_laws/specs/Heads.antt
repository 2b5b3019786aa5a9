-- Abstraction of a state at the head of a loop, and of a post at an exit.
use Rattle.std.specs.Prelude.{◌+◌, Bool, true, false, List, [], ◌∷◌, length}
use Rattle.std.specs.declared.option.Option.{Option}
use Rattle.shape_data.specs.declared.program.Flow.{Flow}
use Rattle.shape_data.specs.declared.program.HeadMark.{HeadMark}
use Rattle.shape_data.specs.declared.program.StructDef.{StructDef}
use Rattle.shape_data.specs.declared.symbolic.Exp.{Exp}
use Rattle.shape_data.specs.declared.symbolic.Post.{Post}
use Rattle.shape_data.specs.declared.symbolic.SymState.{SymState}
use Rattle.sym_pure.specs.Normal.{normal}
use Rattle.sym_canon.specs.Canonical.{as_state, canon_post, canon_state}
use Rattle.sym_forms.specs.Forms.{of_form}
use Rattle.abstraction_laws.specs.Forgetting.{first_new, forget_atoms, forget, forget_value}
use Rattle.abstraction_laws.specs.Repeating.{reduce}

-- the state with its heap reduced: what its locals don't reach, what may be joined, and what then says nothing, is gone
abbrev pub reduced : Bool → SymState → SymState
reduced joins state = record { locals = state.locals; heap = reduce joins state.locals state.heap }

-- a state at the head of a loop: the four rules
abbrev pub at_head : List StructDef → HeadMark → SymState → SymState
at_head structs mark state = reduced true (forget structs mark state)

-- a state at the head of a loop, in normal and then in canonical form. None is a contradiction: a join can make one
abbrev pub abstract_head : SymState → Flow → HeadMark → List StructDef → Option SymState
abstract_head state flow mark structs = of_form (λ form. canon_state form (length flow.params)) (normal (at_head structs mark state))

-- the first rule at an exit: a constant in the result, where that is an int, and in int fields
abbrev pub forget_at_exit : List StructDef → Flow → Post → Post
forget_at_exit structs flow post = record {
  ret = forget_value (first_new (as_state post)) flow.ret post.ret;
  heap = record { pure = post.heap.pure; spatial = forget_atoms structs (first_new (as_state post) + 1) post.heap.spatial };
}

-- in a recursive component constants are forgotten at an exit too
abbrev pub forget_if_recursive : Bool → List StructDef → Flow → Post → Post
forget_if_recursive true structs flow post = forget_at_exit structs flow post
forget_if_recursive false structs flow post = post

-- a post at an exit, as a state whose only local is the result: the second and the fourth rule with the result in place of
-- the locals; in a recursive component the first and the third too
abbrev pub at_exit : Bool → List StructDef → Flow → Post → SymState
at_exit recursive structs flow post = reduced recursive (as_state (forget_if_recursive recursive structs flow post))

-- the only local of a state
abbrev pub result_of : Exp → List Exp → Exp
result_of other [] = other
result_of other (e ∷ es) = e

-- a state that has a result as its local, as a post
abbrev pub post_of : Exp → SymState → Post
post_of other state = record { ret = result_of other state.locals; heap = state.heap }

-- a post at an exit, in normal and then in canonical form. None is a contradiction
abbrev pub abstract_exit : Post → Flow → List StructDef → Bool → Option Post
abstract_exit post flow structs recursive =
    of_form (λ form. canon_post (post_of post.ret form) (length flow.params)) (normal (at_exit recursive structs flow post))
