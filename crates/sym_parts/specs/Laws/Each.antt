-- What holds of each expression of an atom, a fact, a heap, a state.
use Rattle.std.specs.Prelude.{All}
use Rattle.shape_data.specs.declared.symbolic.Atom.{Atom}
use Rattle.shape_data.specs.declared.symbolic.Atom.TheVariants.{Points, Seg, Junk}
use Rattle.shape_data.specs.declared.symbolic.Exp.{Exp}
use Rattle.shape_data.specs.declared.symbolic.Fact.{Fact}
use Rattle.shape_data.specs.declared.symbolic.Fact.TheVariants.{Eq, Ne}
use Rattle.shape_data.specs.declared.symbolic.Post.{Post}
use Rattle.shape_data.specs.declared.symbolic.SymHeap.{SymHeap}
use Rattle.shape_data.specs.declared.symbolic.SymState.{SymState}

-- P holds of each expression of the atom
abbrev pub EachInAtom : (Exp → Type 0) → Atom → Type 0
EachInAtom P (Points at kind fields) = P at × All P fields
EachInAtom P (Seg kind link from to) = P from × P to
EachInAtom P Junk = Unit {0}

-- P holds of both sides of the fact
abbrev pub EachInFact : (Exp → Type 0) → Fact → Type 0
EachInFact P (Eq left right) = P left × P right
EachInFact P (Ne left right) = P left × P right

-- P holds of each expression of the heap
pub record EachInHeap (P : Exp → Type 0) (heap : SymHeap) : Type 0 where
  pub facts : All (EachInFact P) heap.pure
  pub atoms : All (EachInAtom P) heap.spatial

-- P holds of each local, and of each expression of the heap
pub record EachInState (P : Exp → Type 0) (state : SymState) : Type 0 where
  pub locals : All P state.locals
  pub heap : EachInHeap P state.heap

-- P holds of the result, and of each expression of the heap
pub record EachInPost (P : Exp → Type 0) (post : Post) : Type 0 where
  pub ret : P post.ret
  pub heap : EachInHeap P post.heap
