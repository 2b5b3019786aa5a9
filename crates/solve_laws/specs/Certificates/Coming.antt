-- How states come to a node, and posts to an exit: in normal and canonical form, and abstracted at the head of a loop and at an
-- exit. None is a contradiction, which is left out: nothing meets it.
use Rattle.std.specs.Prelude.{ℕ, Bool, List, length, slice_get}
use Rattle.std.specs.Option.{option_and_then}
use Rattle.std.specs.declared.option.Option.{Option}
use Rattle.std.specs.declared.option.Option.TheVariants.{None, Some}
use Rattle.shape_data.specs.declared.program.Flow.{Flow}
use Rattle.shape_data.specs.declared.program.HeadMark.{HeadMark}
use Rattle.shape_data.specs.declared.program.Node.{Node}
use Rattle.shape_data.specs.declared.program.StructDef.{StructDef}
use Rattle.shape_data.specs.declared.symbolic.Post.{Post}
use Rattle.shape_data.specs.declared.symbolic.SymHeap.{SymHeap}
use Rattle.shape_data.specs.declared.symbolic.SymState.{SymState}
use Rattle.sym_pure.specs.Normal.{normal}
use Rattle.sym_canon.specs.Canonical.{as_state, canon_state}
use Rattle.sym_forms.specs.Forms.{of_form}
use Rattle.abstraction_laws.specs.Heads.{abstract_exit, abstract_head, post_of}
use Rattle.sound_laws.specs.Certificates.{start_state}
use Rattle.exec_laws.specs.declared.parts.Table.{Table}

-- what stays the same through the analysis of a procedure: its flow, the structures, the specs that calls may use, and whether
-- its component is recursive
pub record Task : Type 0 where
  pub flow : Flow
  pub structs : List StructDef
  pub table : Table
  pub recursive : Bool

-- FORMS

-- the normal form of a state
abbrev pub normal_state : SymState → Option SymState
normal_state state = of_form (λ form. form) (normal state)

-- the normal form of a post, which is that of the state with the result as its one local
abbrev pub normal_post : Post → Option Post
normal_post post = of_form (post_of post.ret) (normal (as_state post))

-- the state in which a procedure starts, in normal and canonical form
abbrev pub start_form : Flow → SymHeap → Option SymState
start_form flow pre = of_form (λ form. canon_state form (length flow.params)) (normal (start_state flow pre))

-- AT A NODE

-- the mark of a node, where it is the head of a loop
abbrev pub mark_of : Option Node → Option HeadMark
mark_of None = None
mark_of (Some node) = node.head

-- the mark at a place of a procedure
abbrev pub mark_at : Flow → ℕ → Option HeadMark
mark_at flow at = mark_of (slice_get flow.nodes at)

-- a state that comes to a node with this mark: abstracted, where there is one
abbrev pub at_mark : Task → Option HeadMark → SymState → Option SymState
at_mark task None state = Some state
at_mark task (Some mark) state = abstract_head state task.flow mark task.structs

-- a state that comes to the node at a place
abbrev pub at_node : Task → ℕ → SymState → Option SymState
at_node task at state = at_mark task (mark_at task.flow at) state

-- the start state, which comes to node 0
abbrev pub start_at_node : Task → SymHeap → Option SymState
start_at_node task pre = option_and_then (at_node task 0) (start_form task.flow pre)

-- AT AN EXIT

-- a post that comes to an exit
abbrev pub at_exit : Task → Post → Option Post
at_exit task post = abstract_exit post task.flow task.structs task.recursive
