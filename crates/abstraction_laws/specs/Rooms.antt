-- Sizes of well-formed states: room for new variables, and few fields.
use Rattle.std.specs.Prelude.{ℕ, ◌+◌, ◌≤◌, List, length, All}
use Rattle.shape_data.specs.declared.program.HeadMark.{HeadMark}
use Rattle.shape_data.specs.declared.program.StructDef.{StructDef}
use Rattle.shape_data.specs.declared.symbolic.Atom.{Atom}
use Rattle.shape_data.specs.declared.symbolic.SymHeap.{SymHeap}
use Rattle.shape_data.specs.declared.symbolic.SymState.{SymState}
use Rattle.shape_data.specs.WellFormed.{AreStructs, IsState, IsSymHeap, widest}
use Rattle.sym_forms.specs.Sizes.{fields_in, fields_of}
use Rattle.sym_canon.specs.declared.parts.Pair.{Pair}
use Rattle.abstraction_laws.specs.Forgetting.{first_new}
use Rattle.abstraction_laws.specs.Pairs.{join_pair, reduce_state}
use Rattle.abstraction_laws.specs.Results.{IsPair, with_at_most}

-- there are 32-bit numbers for a new variable in each slot and each field of a cell, and then for as many as there are logical
-- ones
abbrev pub HasRoom : SymState → Type 0
HasRoom state = first_new state + length state.locals + fields_in state.heap.spatial + 65536 ≤ 4294967296

-- no cell has more fields than a structure may have
abbrev pub HaveFewFields : List Atom → Type 0
HaveFewFields atoms = All (λ atom. fields_of atom ≤ 32768) atoms

-- what abstraction needs of the sizes of a state: room for new variables, and cells with few fields
pub record IsWithinRoom (state : SymState) : Type 0 where
  pub variables : HasRoom state
  pub fields : HaveFewFields state.heap.spatial

-- a well-formed state of as many slots as a procedure may have is within room
abbrev pub WellFormedIsWithinRoom : Type 0
WellFormedIsWithinRoom =
    (structs : List StructDef) (params slots : ℕ) (state : SymState) → AreStructs structs → slots ≤ 32768 →
    IsState widest structs params slots state → IsWithinRoom state

-- the cells of a well-formed heap have few fields
abbrev pub CellsHaveFewFields : Type 0
CellsHaveFewFields = (structs : List StructDef) (params : ℕ) (heap : SymHeap) → AreStructs structs → IsSymHeap widest structs params heap →
    HaveFewFields heap.spatial

-- the state of a well-formed pair is within room however many parts there are, where its atoms are few, and the missing cells have few
-- fields
abbrev pub LargePairHasRoom : Type 0
LargePairHasRoom =
    (parts : ℕ) (structs : List StructDef) (params slots : ℕ) (pair : Pair) → AreStructs structs → slots ≤ 32768 →
    IsPair (with_at_most parts) structs params slots pair →
    length pair.state.heap.spatial ≤ 12000 → IsWithinRoom pair.state × HaveFewFields pair.missing.spatial

-- after the state of a pair was reduced and the pair joined, there is room for as many new variables as there are logical ones
abbrev pub JoinedPairHasRoom : Type 0
JoinedPairHasRoom = (kinds : List StructDef) (params : ℕ) (pair : Pair) (mark : HeadMark) → HasRoom pair.state →
    first_new (join_pair params (reduce_state kinds mark pair)).state + 65536 ≤ 4294967296
