-- What symbolic heaps mean: which heaps meet them under which assignment of numbers to variables.
use Rattle.std.specs.Prelude.{◌≡◌, ◌≢◌, ◌⊎◌, ℕ, ◌<◌, ℤ, pos, List, [], ◌∷◌, map, slice_index_or}
use Rattle.shape_data.specs.declared.machine.Cell.{Cell}
use Rattle.shape_data.specs.declared.program.StructDef.{StructDef}
use Rattle.shape_data.specs.declared.symbolic.Atom.{Atom}
use Rattle.shape_data.specs.declared.symbolic.Atom.TheVariants.{Points, Seg, Junk}
use Rattle.shape_data.specs.declared.symbolic.Exp.{Exp}
use Rattle.shape_data.specs.declared.symbolic.Exp.TheVariants.{Var, Const}
use Rattle.shape_data.specs.declared.symbolic.Fact.{Fact}
use Rattle.shape_data.specs.declared.symbolic.Fact.TheVariants.{Eq, Ne}
use Rattle.shape_data.specs.declared.symbolic.Post.{Post}
use Rattle.shape_data.specs.declared.symbolic.SymHeap.{SymHeap}
use Rattle.shape_data.specs.declared.symbolic.SymState.{SymState}
use Rattle.shape_data.specs.Heap.{IsSum}

-- the value of an expression under an assignment
abbrev pub value : (ℕ → ℤ) → Exp → ℤ
value s (Var x) = s x
value s (Const n) = n

-- a fact is true under an assignment
abbrev pub IsTrueFact : (ℕ → ℤ) → Fact → Type 0
IsTrueFact s (Eq left right) = value s left ≡ value s right
IsTrueFact s (Ne left right) = value s left ≢ value s right

-- each fact is true
abbrev pub AreTrueFacts : (ℕ → ℤ) → List Fact → Type 0
AreTrueFacts s [] = Unit {0}
AreTrueFacts s (fact ∷ facts) = IsTrueFact s fact × AreTrueFacts s facts

-- a chain: the cells lead from one address to another by a field; the empty list leads from an address to itself.
-- That the cells stand at different addresses is said by their sum. (A link that is no field would read 0; a
-- well-formed segment has none.)
abbrev pub IsChain : List ℕ → ℕ → ℤ → ℤ → List Cell → Type 0
IsChain kind link from to [] = from ≡ to
IsChain kind link from to (cell ∷ cells) =
    (cell.at ≡ from) × (cell.kind ≡ kind) × IsChain kind link (slice_index_or cell.fields link (pos 0)) to cells

-- a heap is the sum of these cells: exactly these, at different addresses
abbrev pub IsSumOf : List StructDef → List Cell → List Cell → Type 0
IsSumOf structs [] heap = heap ≡ []
IsSumOf structs (cell ∷ cells) heap = (others : List Cell) × IsSum structs heap (cell ∷ []) others × IsSumOf structs cells others

-- cells are exactly what an atom says: its one cell, the cells of a chain, or any. That they are a heap over the
-- structures is said where they are summed.
-- (Distefano, O'Hearn and Yang, TACAS 2006; here a segment may be a cycle, and may pass through its end)
abbrev pub HoldsAtom : List StructDef → (ℕ → ℤ) → Atom → List Cell → Type 0
HoldsAtom structs s (Points at kind fields) heap = heap ≡ record { at = value s at; kind = kind; fields = map (value s) fields } ∷ []
HoldsAtom structs s (Seg kind link from to) heap =
    (cells : List Cell) × IsChain kind link (value s from) (value s to) cells × IsSumOf structs cells heap
HoldsAtom structs s Junk heap = Unit {0}

-- a heap is the sum of one heap for each atom
abbrev pub HoldsAtoms : List StructDef → (ℕ → ℤ) → List Atom → List Cell → Type 0
HoldsAtoms structs s [] heap = heap ≡ []
HoldsAtoms structs s (atom ∷ atoms) heap =
    (own : List Cell) × (others : List Cell) × IsSum structs heap own others × HoldsAtom structs s atom own
    × HoldsAtoms structs s atoms others

-- a symbolic heap holds of a heap under an assignment to all variables
pub record Holds (structs : List StructDef) (s : ℕ → ℤ) (heap : List Cell) (symbolic : SymHeap) : Type 0 where
  pub facts : AreTrueFacts s symbolic.pure
  pub atoms : HoldsAtoms structs s symbolic.spatial heap

-- two assignments agree on the logical variables, which are those below 65,536
abbrev pub AgreesOnLogical : (ℕ → ℤ) → (ℕ → ℤ) → Type 0
AgreesOnLogical s t = (x : ℕ) → x < 65536 → t x ≡ s x

-- a heap meets a symbolic heap: it holds for some choice of the existential variables
abbrev pub Meets : List StructDef → (ℕ → ℤ) → List Cell → SymHeap → Type 0
Meets structs s heap symbolic = (t : ℕ → ℤ) × AgreesOnLogical s t × Holds structs t heap symbolic

-- locals and a heap meet a state: one choice of the existential variables serves both
abbrev pub MeetsState : List StructDef → (ℕ → ℤ) → List ℤ → List Cell → SymState → Type 0
MeetsState structs s locals heap state =
    (t : ℕ → ℤ) × AgreesOnLogical s t × (locals ≡ map (value t) state.locals) × Holds structs t heap state.heap

-- a result and a heap meet a post: one choice of the existential variables serves both
abbrev pub MeetsPost : List StructDef → (ℕ → ℤ) → ℤ → List Cell → Post → Type 0
MeetsPost structs s ret heap post =
    (t : ℕ → ℤ) × AgreesOnLogical s t × (ret ≡ value t post.ret) × Holds structs t heap post.heap

-- a result and a heap meet one of the posts
abbrev pub MeetsOne : List StructDef → (ℕ → ℤ) → ℤ → List Cell → List Post → Type 0
MeetsOne structs s ret heap [] = ⊥
MeetsOne structs s ret heap (post ∷ posts) = MeetsPost structs s ret heap post ⊎ MeetsOne structs s ret heap posts
