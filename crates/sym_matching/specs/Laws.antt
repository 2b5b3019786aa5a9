-- What a match says of heaps.
use Rattle.std.specs.Prelude.{◌≡◌, ℕ, ℤ, Bool, true, false, IsTrue, ◌||◌, ltb, List, ◌++◌, length, All}
use Rattle.std.specs.Option.{IsSomeAnd}
use Rattle.std.specs.declared.option.Option.TheVariants.{Some}
use Rattle.shape_data.specs.declared.machine.Cell.{Cell}
use Rattle.shape_data.specs.declared.program.StructDef.{StructDef}
use Rattle.shape_data.specs.declared.symbolic.Atom.{Atom}
use Rattle.shape_data.specs.declared.symbolic.Atom.TheVariants.{Points, Seg, Junk}
use Rattle.shape_data.specs.declared.symbolic.Exp.{Exp}
use Rattle.shape_data.specs.declared.symbolic.Exp.TheVariants.{Var}
use Rattle.shape_data.specs.declared.symbolic.Post.{Post}
use Rattle.shape_data.specs.declared.symbolic.SymHeap.{SymHeap}
use Rattle.shape_data.specs.declared.symbolic.SymState.{SymState}
use Rattle.shape_data.specs.Heap.{IsSum, struct_named}
use Rattle.shape_data.specs.Meaning.{AgreesOnLogical, Holds, MeetsState, MeetsPost}
use Rattle.shape_data.specs.Structures.{ContainsStructures}
use Rattle.shape_data.specs.WellFormed.{IsSymHeap, Limits}
use Rattle.sym_parts.specs.Shapes.Symbolic.{beside, emp, occurs_in}
use Rattle.sym_parts.specs.Laws.Each.{EachInHeap}
use Rattle.sym_parts.specs.Laws.Fresh.{is_one_of}
use Rattle.sym_parts.specs.Laws.Mapped.{on_heap}
use Rattle.sym_matching.specs.declared.matching.Abd.TheVariants as abd
use Rattle.sym_matching.specs.declared.matching.Matching.{Matching}
use Rattle.sym_matching.specs.declared.matching.Mode.{Mode}
use Rattle.sym_matching.specs.declared.matching.Mode.TheVariants.{Subtract}
use Rattle.sym_matching.specs.declared.matching.Sub.TheVariants as sub
use Rattle.sym_matching.specs.declared.matching.Turned.TheVariants.{On}
use Rattle.sym_matching.specs.Covers.{StateCovers, PostCovers}
use Rattle.sym_matching.specs.Matches.{argument_variables, biabduce_avoiding, frame_of, matching, rules_of, subtract_avoiding}
use Rattle.sym_matching.specs.Reading.{bound_exp, bound_to, is_logical, is_unbound, through}
use Rattle.sym_matching.specs.Steps.{Rules}

-- a cell of the kind has so many fields
abbrev pub FitsKind : List StructDef → List ℕ → ℕ → Type 0
FitsKind structs kind count = IsSomeAnd (struct_named structs kind) (λ def. count ≡ length def.fields)

-- a cell has as many fields as its structure, as in each well-formed heap
abbrev pub FitsAtom : List StructDef → Atom → Type 0
FitsAtom structs (Points at kind fields) = FitsKind structs kind (length fields)
FitsAtom structs (Seg kind link from to) = Unit {0}
FitsAtom structs Junk = Unit {0}

-- each atom of a well-formed heap fits
abbrev pub WellFormedFits : Type 0
WellFormedFits = (limits : Limits) (structs : List StructDef) (params : ℕ) (heap : SymHeap) → IsSymHeap limits structs params heap →
    All (FitsAtom structs) heap.spatial

-- and fits over each list of structures that contains those it fits over
abbrev pub FittingCarries : Type 0
FittingCarries =
    (larger smaller : List StructDef) → ContainsStructures larger smaller → (atoms : List Atom) → All (FitsAtom smaller) atoms →
    All (FitsAtom larger) atoms

-- a variable that keeps its value through a match: a logical one, or one that new variables avoid
abbrev pub is_kept : List ℕ → ℕ → Bool
is_kept used x = ltb x 65536 || is_one_of used x

-- the second assignment gives these variables, and all logical ones, the values that the first gives them
abbrev pub AgreesOn : List ℕ → (ℕ → ℤ) → (ℕ → ℤ) → Type 0
AgreesOn used s t = (x : ℕ) → is_kept used x ≡ true → t x ≡ s x

-- what is determined under a binding stays so under a later one, and reads the same
abbrev pub Keeps : List ℕ → List (ℕ × Exp) → List (ℕ × Exp) → Type 0
Keeps flexible now later = (e : Exp) → is_unbound flexible now e ≡ false →
    (is_unbound flexible later e ≡ false) × (bound_exp later e ≡ bound_exp now e)

-- what a match says of a heap that holds under an assignment s: under another one, which agrees with s on what was in use
-- and on logical variables, the heap is the sum of one that holds the wanted heap, whose variables have the values of what
-- they are bound to, and one that holds the frame
pub record Matched (structs : List StructDef) (rules : Rules) (b : SymHeap) (bound : List (ℕ × Exp)) (used : List ℕ) (n : Matching)
    (s : ℕ → ℤ) (heap : List Cell) : Type 0 where
  pub t : ℕ → ℤ
  pub own : List Cell
  pub rest : List Cell
  pub agrees : AgreesOn used s t
  pub keeps : Keeps rules.flexible bound n.binding
  pub sum : IsSum structs heap own rest
  pub wanted : Holds structs (through n.binding t) own b
  pub frame : Holds structs t rest (frame_of rules b n)

-- the law of the match, in both modes: what holds a, with the missing part beside it, is matched
abbrev pub MatchSplits : Type 0
MatchSplits =
    (structs : List StructDef) (mode : Mode) (a b : SymHeap) (bound : List (ℕ × Exp)) (flexible avoid : List ℕ) (next : ℕ) (n : Matching) →
    All (FitsAtom structs) b.spatial →
    matching mode a b bound flexible avoid next ≡ On n → (s : ℕ → ℤ) (heap : List Cell) → Holds structs s heap (beside a n.missing) →
    Matched structs (rules_of mode a flexible) b bound (argument_variables a b bound flexible ++ avoid) n s heap

-- in subtraction nothing is missing
abbrev pub SubtractMissesNothing : Type 0
SubtractMissesNothing =
    (a b : SymHeap) (bound : List (ℕ × Exp)) (flexible avoid : List ℕ) (next : ℕ) (n : Matching) →
    matching Subtract a b bound flexible avoid next ≡ On n → n.missing ≡ emp

-- the missing part speaks of logical variables and constants alone
abbrev pub MissingIsLogical : Type 0
MissingIsLogical =
    (mode : Mode) (a b : SymHeap) (bound : List (ℕ × Exp)) (flexible avoid : List ℕ) (next : ℕ) (n : Matching) →
    matching mode a b bound flexible avoid next ≡ On n → EachInHeap (λ e. is_logical e ≡ true) n.missing

-- a variable that was bound stands for what it was bound to
abbrev pub StaysBound : List (ℕ × Exp) → List (ℕ × Exp) → Type 0
StaysBound bound binding = (x : ℕ) (e : Exp) → bound_to bound x ≡ Some e → bound_exp binding (Var x) ≡ e

-- what a match answers as binding keeps what was bound and what was determined
pub record KeepsBound (bound : List (ℕ × Exp)) (flexible : List ℕ) (binding : List (ℕ × Exp)) : Type 0 where
  pub keeps : Keeps flexible bound binding
  pub stays : StaysBound bound binding

abbrev pub SubtractKeepsBound : Type 0
SubtractKeepsBound =
    (structs : List StructDef) (a b : SymHeap) (bound : List (ℕ × Exp)) (flexible avoid : List ℕ) (frame : SymHeap)
    (binding : List (ℕ × Exp)) → All (FitsAtom structs) b.spatial →
    subtract_avoiding a b bound flexible avoid ≡ sub.Match frame binding → KeepsBound bound flexible binding

abbrev pub BiabduceKeepsBound : Type 0
BiabduceKeepsBound =
    (structs : List StructDef) (a b : SymHeap) (bound : List (ℕ × Exp)) (flexible : List ℕ) (next : ℕ) (avoid : List ℕ)
    (missing frame : SymHeap) (binding : List (ℕ × Exp)) → All (FitsAtom structs) b.spatial →
    biabduce_avoiding a b bound flexible next avoid ≡ abd.Found missing frame binding → KeepsBound bound flexible binding

-- some assignment that agrees with s on a's variables, on further ones and on all logical ones makes the heap a sum of one
-- that holds the bound b, and one that holds the frame
pub record GivesBeside (structs : List StructDef) (s : ℕ → ℤ) (heap : List Cell) (a b : SymHeap) (bound : List (ℕ × Exp))
    (flexible avoid : List ℕ) (binding : List (ℕ × Exp)) (frame : SymHeap) : Type 0 where
  pub t : ℕ → ℤ
  pub own : List Cell
  pub rest : List Cell
  pub agrees : (x : ℕ) → IsTrue (occurs_in x a) → t x ≡ s x
  pub avoids : (x : ℕ) → is_one_of avoid x ≡ true → t x ≡ s x
  pub logical : AgreesOnLogical s t
  pub sum : IsSum structs heap own rest
  pub keeps : Keeps flexible bound binding
  pub stays : StaysBound bound binding
  pub wanted : Holds structs t own (on_heap (bound_exp binding) b)
  pub frame_holds : Holds structs t rest frame

-- subtraction: what holds a holds the bound b beside the frame
abbrev pub SubtractGivesBeside : Type 0
SubtractGivesBeside =
    (structs : List StructDef) (a b : SymHeap) (bound : List (ℕ × Exp)) (flexible avoid : List ℕ) (frame : SymHeap)
    (binding : List (ℕ × Exp)) → All (FitsAtom structs) b.spatial →
    subtract_avoiding a b bound flexible avoid ≡ sub.Match frame binding → (s : ℕ → ℤ) (heap : List Cell) → Holds structs s heap a →
    GivesBeside structs s heap a b bound flexible avoid binding frame

-- abduction: what holds a beside the missing part holds the bound b beside the frame. The assignment agrees on the variables of
-- both
abbrev pub BiabduceGivesBeside : Type 0
BiabduceGivesBeside =
    (structs : List StructDef) (a b : SymHeap) (bound : List (ℕ × Exp)) (flexible : List ℕ) (next : ℕ) (avoid : List ℕ)
    (missing frame : SymHeap) (binding : List (ℕ × Exp)) → All (FitsAtom structs) b.spatial →
    biabduce_avoiding a b bound flexible next avoid ≡ abd.Found missing frame binding → (s : ℕ → ℤ) (heap : List Cell) →
    Holds structs s heap (beside a missing) →
    GivesBeside structs s heap (beside a missing) b bound flexible avoid binding frame

-- what meets a state meets each state that covers it
abbrev pub CoveringStateMeets : Type 0
CoveringStateMeets =
    (structs : List StructDef) (a b : SymState) → All (FitsAtom structs) b.heap.spatial → StateCovers b a →
    (s : ℕ → ℤ) (locals : List ℤ) (heap : List Cell) → MeetsState structs s locals heap a → MeetsState structs s locals heap b

-- what meets a post meets each post that covers it
abbrev pub CoveringPostMeets : Type 0
CoveringPostMeets =
    (structs : List StructDef) (a b : Post) → All (FitsAtom structs) b.heap.spatial → PostCovers b a →
    (s : ℕ → ℤ) (ret : ℤ) (heap : List Cell) → MeetsPost structs s ret heap a → MeetsPost structs s ret heap b
