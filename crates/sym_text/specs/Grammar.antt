-- The grammar: which texts belong to it, and where a text leaves it.
use Rattle.std.specs.Prelude.{◌≡◌, ℕ, ◌+◌, ◌<◌, ◌≤◌, pos, negsuc, true, List, ◌++◌, length, take, All}
use Rattle.shape_data.specs.declared.program.StructDef.{StructDef}
use Rattle.shape_data.specs.declared.symbolic.Atom.{Atom}
use Rattle.shape_data.specs.declared.symbolic.Atom.TheVariants.{Points, Seg, Junk}
use Rattle.shape_data.specs.declared.symbolic.Exp.{Exp}
use Rattle.shape_data.specs.declared.symbolic.Exp.TheVariants.{Var, Const}
use Rattle.shape_data.specs.declared.symbolic.Fact.{Fact}
use Rattle.shape_data.specs.declared.symbolic.Fact.TheVariants.{Eq, Ne}
use Rattle.shape_data.specs.declared.symbolic.Post.{Post}
use Rattle.shape_data.specs.declared.symbolic.SymHeap.{SymHeap}
use Rattle.shape_data.specs.WellFormed.{Limits, storable, IsSymHeap, IsPost}
use Rattle.sym_text.specs.declared.fault.BadSpec.{BadSpec}
use Rattle.sym_text.specs.declared.fault.BadSpec.TheVariants.{At, OutOfMemory}
use Rattle.sym_text.specs.Text.{heap_text, post_text}

-- what texts go up to: `$n` and `?n` with n at most 32,768, and 4,000 parts (facts and atoms)
abbrev pub written : Limits
written = record storable { parts = 4000 }

-- the constant is a 32-bit number
abbrev pub IsInt : Exp → Type 0
IsInt (Var x) = Unit {0}
IsInt (Const (pos n)) = n ≤ 2147483647
IsInt (Const (negsuc n)) = n ≤ 2147483647

-- the constants of a fact are 32-bit numbers
abbrev pub HasInts : Fact → Type 0
HasInts (Eq left right) = IsInt left × IsInt right
HasInts (Ne left right) = IsInt left × IsInt right

-- the constants of an atom are 32-bit numbers
abbrev pub HoldsInts : Atom → Type 0
HoldsInts (Points at kind fields) = IsInt at × All IsInt fields
HoldsInts (Seg kind link from to) = IsInt from × IsInt to
HoldsInts Junk = Unit {0}

-- a heap that is well formed, within `written`, over these structures and parameters, and has 32-bit constants
pub record IsWritten (structs : List StructDef) (params : List (List ℕ)) (heap : SymHeap) : Type 0 where
  pub formed : IsSymHeap written structs (length params) heap
  pub facts : All HasInts heap.pure
  pub atoms : All HoldsInts heap.spatial

-- a post that is well formed, within `written`, over these structures and parameters, and has 32-bit constants
pub record IsWrittenPost (structs : List StructDef) (params : List (List ℕ)) (post : Post) : Type 0 where
  pub formed : IsPost written structs (length params) post
  pub ret : IsInt post.ret
  pub facts : All HasInts post.heap.pure
  pub atoms : All HoldsInts post.heap.spatial

-- the text is that of such a heap
abbrev pub IsHeapText : List StructDef → List (List ℕ) → List ℕ → Type 0
IsHeapText structs params text = (heap : SymHeap) × (IsWritten structs params heap × (text ≡ heap_text structs params heap))

-- the text is that of such a post with its result
abbrev pub IsPostText : List StructDef → List (List ℕ) → List ℕ → Type 0
IsPostText structs params text = (post : Post) × (IsWrittenPost structs params post × (text ≡ post_text structs params true post))

-- some text of the grammar begins with these bytes
abbrev pub Begins : (List ℕ → Type 0) → List ℕ → Type 0
Begins IsText front = (behind : List ℕ) × IsText (front ++ behind)

-- the text is not of the grammar, and the offset is the length of its longest prefix that begins some text of the grammar:
-- that prefix begins one and, unless it is the whole text, with the next byte no more
pub record IsRefused (IsText : List ℕ → Type 0) (text : List ℕ) (offset : ℕ) : Type 0 where
  pub within : offset ≤ length text
  pub begins : Begins IsText (take offset text)
  pub no_more : offset < length text → Begins IsText (take (offset + 1) text) → ⊥
  pub no_text : IsText text → ⊥

-- a right refusal of a text; of want of memory nothing is asked
abbrev pub IsRefusal : (List ℕ → Type 0) → List ℕ → BadSpec → Type 0
IsRefusal IsText text (At offset) = IsRefused IsText text offset
IsRefusal IsText text OutOfMemory = Unit {0}
