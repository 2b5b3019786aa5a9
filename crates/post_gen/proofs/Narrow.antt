-- What is well formed and has at most 96 parts can be analysed.
use Rattle.std.specs.Prelude.{ℕ, ◌≤◌, List, length}
use Rattle.std.proofs.lemmas.List.Elements.{All-weaker}
use Rattle.shape_data.specs.declared.program.StructDef.{StructDef}
use Rattle.shape_data.specs.declared.symbolic.Atom.{Atom}
use Rattle.shape_data.specs.declared.symbolic.Atom.TheVariants.{Points, Seg, Junk}
use Rattle.shape_data.specs.declared.symbolic.Exp.{Exp}
use Rattle.shape_data.specs.declared.symbolic.Exp.TheVariants.{Var, Const}
use Rattle.shape_data.specs.declared.symbolic.Fact.{Fact}
use Rattle.shape_data.specs.declared.symbolic.Fact.TheVariants.{Eq, Ne}
use Rattle.shape_data.specs.declared.symbolic.Post.{Post}
use Rattle.shape_data.specs.declared.symbolic.SymHeap.{SymHeap}
use Rattle.shape_data.specs.declared.symbolic.SymState.{SymState}
use Rattle.shape_data.specs.WellFormed.{IsAtom, IsExp, IsFact, IsSymHeap, widest}
use Rattle.solve_laws.specs.Annotation.Listing.{parts_of}
use Rattle.solve_laws.specs.Certificates.Coming.{Task}
use Rattle.solve_laws.specs.Certificates.Conditions.{IsGivenPost, IsGivenState, IsTaskPost, IsTaskState}
use Rattle.solve_laws.specs.Certificates.Limits.{analysable}

module _ (params : ℕ) where
  exp : (one : Exp) → IsExp widest params one → IsExp analysable params one
  exp (Var x) is = is
  exp (Const n) is = tt

  fact : (one : Fact) → IsFact widest params one → IsFact analysable params one
  fact (Eq left right) is = (exp left is.0, exp right is.1)
  fact (Ne left right) is = (exp left is.0, exp right is.1)

  module _ (structs : List StructDef) where
    atom : (one : Atom) → IsAtom widest structs params one → IsAtom analysable structs params one
    atom (Points at kind fields) is = (exp at is.0, is.1, All-weaker (IsExp widest params) (IsExp analysable params) exp fields is.2)
    atom (Seg kind link from to) is = (is.0, exp from is.1, exp to is.2)
    atom Junk is = tt

    heap : (one : SymHeap) → IsSymHeap widest structs params one → parts_of one ≤ 96 → IsSymHeap analysable structs params one
    heap one is few = record {
      parts = few;
      facts = All-weaker (IsFact widest params) (IsFact analysable params) fact one.pure is.facts;
      atoms = All-weaker (IsAtom widest structs params) (IsAtom analysable structs params) atom one.spatial is.atoms;
    }

pub state-narrow : (task : Task) (state : SymState) → IsTaskState task state → parts_of state.heap ≤ 96 → IsGivenState task state
state-narrow task state is few =
    let params = length task.flow.params in record {
      one_each = is.one_each;
      locals = All-weaker (IsExp widest params) (IsExp analysable params) (exp params) state.locals is.locals;
      heap = heap params task.structs state.heap is.heap few;
    }

pub post-narrow : (task : Task) (post : Post) → IsTaskPost task post → parts_of post.heap ≤ 96 → IsGivenPost task post
post-narrow task post is few =
    let params = length task.flow.params in
    record { ret = exp params post.ret is.ret; heap = heap params task.structs post.heap is.heap few }
