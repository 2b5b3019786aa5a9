-- A function on expressions, used on each expression of an atom, a fact, a heap: substitution, renaming and binding are
-- such functions. What holds of a mapped heap is what holds of the heap under the values that the function gives.
use Rattle.std.specs.Prelude.{◌≡◌, ◌↔◌, ℕ, ◌<◌, ℤ, List, map}
use Rattle.shape_data.specs.declared.machine.Cell.{Cell}
use Rattle.shape_data.specs.declared.program.StructDef.{StructDef}
use Rattle.shape_data.specs.declared.symbolic.Atom.{Atom}
use Rattle.shape_data.specs.declared.symbolic.Atom.TheVariants.{Points, Seg, Junk}
use Rattle.shape_data.specs.declared.symbolic.Exp.{Exp}
use Rattle.shape_data.specs.declared.symbolic.Exp.TheVariants.{Var, Const}
use Rattle.shape_data.specs.declared.symbolic.Fact.{Fact}
use Rattle.shape_data.specs.declared.symbolic.Fact.TheVariants.{Eq, Ne}
use Rattle.shape_data.specs.declared.symbolic.Post.{Post}
use Rattle.shape_data.specs.declared.symbolic.SymHeap.{SymHeap}
use Rattle.shape_data.specs.declared.symbolic.SymState.{SymState}
use Rattle.shape_data.specs.Meaning.{value, Holds, MeetsState, MeetsPost}

-- the atom with the function used on its expressions
abbrev pub on_atom : (Exp → Exp) → Atom → Atom
on_atom f (Points at kind fields) = Points (f at) kind (map f fields)
on_atom f (Seg kind link from to) = Seg kind link (f from) (f to)
on_atom f Junk = Junk

-- the fact with the function used on its sides
abbrev pub on_fact : (Exp → Exp) → Fact → Fact
on_fact f (Eq left right) = Eq (f left) (f right)
on_fact f (Ne left right) = Ne (f left) (f right)

-- the heap with the function used on its expressions
abbrev pub on_heap : (Exp → Exp) → SymHeap → SymHeap
on_heap f heap = record { pure = map (on_fact f) heap.pure; spatial = map (on_atom f) heap.spatial }

-- the state with the function used on its locals and its heap
abbrev pub on_state : (Exp → Exp) → SymState → SymState
on_state f state = record { locals = map f state.locals; heap = on_heap f state.heap }

-- the post with the function used on its result and its heap
abbrev pub on_post : (Exp → Exp) → Post → Post
on_post f post = record { ret = f post.ret; heap = on_heap f post.heap }

-- the expression with another number for its variable
abbrev pub renamed : (ℕ → ℕ) → Exp → Exp
renamed number (Var x) = Var (number x)
renamed number (Const n) = Const n

-- LAWS

-- what a mapped heap means: where the function's results have under t the values that the expressions have under u, the
-- mapped heap holds under t of what the heap holds under u
abbrev pub MappedHolds : Type 0
MappedHolds =
    (structs : List StructDef) (t u : ℕ → ℤ) (f : Exp → Exp) → ((e : Exp) → value t (f e) ≡ value u e) →
    (heap : List Cell) (shape : SymHeap) →
    Holds structs t heap (on_heap f shape) ↔ Holds structs u heap shape

-- the renaming can be undone, and leaves the logical variables, which are those below 65,536
pub record IsRenaming (number back : ℕ → ℕ) : Type 0 where
  pub undone : (x : ℕ) → back (number x) ≡ x
  pub keeps : (x : ℕ) → x < 65536 → number x ≡ x

-- other numbers for the existential variables of a state keep what meets it
abbrev pub RenamedStateMeets : Type 0
RenamedStateMeets =
    (number back : ℕ → ℕ) → IsRenaming number back →
    (structs : List StructDef) (s : ℕ → ℤ) (locals : List ℤ) (heap : List Cell) (state : SymState) →
    MeetsState structs s locals heap state ↔ MeetsState structs s locals heap (on_state (renamed number) state)

-- other numbers for the existential variables of a post keep what meets it
abbrev pub RenamedPostMeets : Type 0
RenamedPostMeets =
    (number back : ℕ → ℕ) → IsRenaming number back → (structs : List StructDef) (s : ℕ → ℤ) (ret : ℤ) (heap : List Cell) (post : Post) →
    MeetsPost structs s ret heap post ↔ MeetsPost structs s ret heap (on_post (renamed number) post)
