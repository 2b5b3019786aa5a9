-- Room for the numbers of new variables.
use Rattle.std.specs.Prelude.{◌≡◌, ℕ, ◌+◌, ◌<◌, ◌≤◌, false, List, [], ◌∷◌, ◌++◌, length, All}
use Rattle.shape_data.specs.declared.program.StructDef.{StructDef}
use Rattle.shape_data.specs.declared.symbolic.Atom.{Atom}
use Rattle.shape_data.specs.declared.symbolic.Atom.TheVariants.{Points, Seg, Junk}
use Rattle.shape_data.specs.declared.symbolic.Exp.{Exp}
use Rattle.shape_data.specs.declared.symbolic.Exp.TheVariants.{Var, Const}
use Rattle.shape_data.specs.declared.symbolic.SymHeap.{SymHeap}
use Rattle.shape_data.specs.WellFormed.{AreStructs, IsSymHeap, widest}
use Rattle.sym_parts.specs.Laws.Each.{EachInHeap}
use Rattle.sym_parts.specs.Laws.Fresh.{is_one_of}
use Rattle.sym_matching.specs.declared.matching.Matching.{Matching}
use Rattle.sym_matching.specs.declared.matching.Turned.TheVariants.{On}
use Rattle.sym_matching.specs.declared.matching.Wanted.{Wanted}
use Rattle.sym_matching.specs.NewVariables.{HasRoom, first_free, fresh_variables}
use Rattle.sym_matching.specs.Steps.{Rules}
use Rattle.sym_matching.specs.WantedAtoms.{want_atom, want_atoms}

-- how many fields an atom has
abbrev pub fields_of : Atom → ℕ
fields_of (Points at kind fields) = length fields
fields_of (Seg kind link from to) = 0
fields_of Junk = 0

-- how many fields atoms have together
abbrev pub fields_of_all : List Atom → ℕ
fields_of_all [] = 0
fields_of_all (atom ∷ atoms) = fields_of atom + fields_of_all atoms

-- and wanted atoms
abbrev pub fields_wanted : List Wanted → ℕ
fields_wanted [] = 0
fields_wanted (wanted ∷ others) = fields_of wanted.atom + fields_wanted others

-- how many new logical variables a wanted atom may take: one for each field of a cell, one for the end of a segment
abbrev pub names_of : Atom → ℕ
names_of (Points at kind fields) = length fields
names_of (Seg kind link from to) = 1
names_of Junk = 0

-- and wanted atoms
abbrev pub names_wanted : List Wanted → ℕ
names_wanted [] = 0
names_wanted (wanted ∷ others) = names_of wanted.atom + names_wanted others

-- the variable of an expression is below 2^31
abbrev pub IsSmall : Exp → Type 0
IsSmall (Var x) = x < 2147483648
IsSmall (Const n) = Unit {0}

-- what each well-formed heap is: variables below 2^31, at most 4,000 parts, and cells of at most 32,768 fields
pub record IsWithinSizes (heap : SymHeap) : Type 0 where
  pub variables : EachInHeap IsSmall heap
  pub parts : length heap.pure + length heap.spatial ≤ 4000
  pub fields : All (λ atom. fields_of atom ≤ 32768) heap.spatial

-- LAWS

-- each well-formed heap is within the sizes
abbrev pub WellFormedIsWithinSizes : Type 0
WellFormedIsWithinSizes = (structs : List StructDef) (params : ℕ) (heap : SymHeap) → AreStructs structs →
    IsSymHeap widest structs params heap → IsWithinSizes heap

-- a heap within the sizes has at most 131,072,000 fields
abbrev pub FewFields : Type 0
FewFields = (heap : SymHeap) → IsWithinSizes heap → fields_of_all heap.spatial ≤ 131072000

-- where the variables in use are below a limit, and the limit with the new ones below 2^32, there is room
abbrev pub RoomBelow : Type 0
RoomBelow = (limit count : ℕ) (used : List ℕ) → 65536 ≤ limit → limit + count ≤ 4294967296 → All (λ x. x < limit) used → HasRoom count used

-- where the variables in use are few, there is room
abbrev pub RoomOfFew : Type 0
RoomOfFew = (count : ℕ) (used : List ℕ) → 65536 + length used + count ≤ 4294967296 → HasRoom count used

-- room for more is room for some, and then for the others
abbrev pub RoomParts : Type 0
RoomParts = (one other : ℕ) (used : List ℕ) → HasRoom (one + other) used →
    HasRoom one used × HasRoom other (used ++ fresh_variables one used)

-- the number that the search from x on finds is at least x, and not in use
abbrev pub SearchFindsFree : Type 0
SearchFindsFree =
    (turns x : ℕ) (used : List ℕ) → length used ≤ turns → (x ≤ first_free turns x used) × (is_one_of used (first_free turns x used) ≡ false)

-- a wanted atom takes no more room than it has fields
abbrev pub AtomTakesRoom : Type 0
AtomTakesRoom =
    (rules : Rules) (number : ℕ) (atom : Atom) (m n : Matching) (more : ℕ) → want_atom rules number atom m ≡ On n →
    HasRoom (fields_of atom + more) m.used → HasRoom more n.used

-- wanted atoms take no more room than they have fields
abbrev pub AtomsTakeRoom : Type 0
AtomsTakeRoom =
    (rules : Rules) (turns : ℕ) (wanted : List Wanted) (m n : Matching) (more : ℕ) → length wanted ≡ turns →
    want_atoms turns rules wanted m ≡ On n →
    HasRoom (fields_wanted wanted + more) m.used → HasRoom more n.used

-- a wanted atom takes no more new logical variables than it may
abbrev pub AtomNames : Type 0
AtomNames = (rules : Rules) (number : ℕ) (atom : Atom) (m n : Matching) → want_atom rules number atom m ≡ On n →
    n.next ≤ m.next + names_of atom

-- and so wanted atoms
abbrev pub AtomsName : Type 0
AtomsName =
    (rules : Rules) (turns : ℕ) (wanted : List Wanted) (m n : Matching) → length wanted ≡ turns → want_atoms turns rules wanted m ≡ On n →
    n.next ≤ m.next + names_wanted wanted
