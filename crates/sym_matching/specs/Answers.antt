-- What a match answers is well formed where its arguments are, and how large it is.
use Rattle.std.specs.Prelude.{◌≡◌, ℕ, ◌+◌, ◌<◌, ◌≤◌, List, [], ◌∷◌, ◌++◌, length, All}
use Rattle.shape_data.specs.declared.program.StructDef.{StructDef}
use Rattle.shape_data.specs.declared.symbolic.Atom.{Atom}
use Rattle.shape_data.specs.declared.symbolic.Exp.{Exp}
use Rattle.shape_data.specs.declared.symbolic.Exp.TheVariants.{Var}
use Rattle.shape_data.specs.declared.symbolic.SymHeap.{SymHeap}
use Rattle.shape_data.specs.WellFormed.{AreStructs, IsAtom, IsExp, IsFact, IsSymHeap, Limits, widest}
use Rattle.sym_matching.specs.declared.matching.Abd.TheVariants as abd
use Rattle.sym_matching.specs.declared.matching.Matching.{Matching}
use Rattle.sym_matching.specs.declared.matching.Mode.{Mode}
use Rattle.sym_matching.specs.declared.matching.Sub.TheVariants as sub
use Rattle.sym_matching.specs.declared.matching.Turned.TheVariants.{On}
use Rattle.sym_matching.specs.Matches.{argument_variables, biabduce_avoiding, matching, subtract_avoiding}
use Rattle.sym_matching.specs.NewVariables.{fresh_variables}
use Rattle.sym_matching.specs.Rooms.{fields_of_all, names_of}

-- a variable may occur
abbrev pub MayOccur : Limits → ℕ → ℕ → Type 0
MayOccur limits params x = IsExp limits params (Var x)

-- a bound variable may occur, and so may the variable of its expression
abbrev pub IsBound : Limits → ℕ → ℕ × Exp → Type 0
IsBound limits params bound = MayOccur limits params bound.0 × IsExp limits params bound.1

-- the facts and atoms of a heap are well formed; how many there are is not asked
pub record HasParts (limits : Limits) (structs : List StructDef) (params : ℕ) (heap : SymHeap) : Type 0 where
  pub facts : All (IsFact limits params) heap.pure
  pub atoms : All (IsAtom limits structs params) heap.spatial

-- how many new logical variables atoms may take
abbrev pub names_of_all : List Atom → ℕ
names_of_all [] = 0
names_of_all (atom ∷ atoms) = names_of atom + names_of_all atoms

-- the new variables of a match may occur: the existential ones that the wanted fields may take, and the logical ones, up to so many from
-- next
-- on as wanted atoms may take
pub record MayName (limits : Limits) (params : ℕ) (b : SymHeap) (used : List ℕ) (next : ℕ) : Type 0 where
  pub fresh : All (MayOccur limits params) (fresh_variables (fields_of_all b.spatial) used)
  pub logical : (x : ℕ) → x < next + names_of_all b.spatial → MayOccur limits params x

-- a match at its end has well-formed parts: what is left, of no more atoms than there were; what is missing; and the binding
pub record IsAnswered (limits : Limits) (structs : List StructDef) (params : ℕ) (atoms : ℕ) (n : Matching) : Type 0 where
  pub left : All (IsAtom limits structs params) n.left
  pub fewer : length n.left ≤ atoms
  pub missing : HasParts limits structs params n.missing
  pub binding : All (IsBound limits params) n.binding

-- in both modes, for any limits
abbrev pub MatchIsWellFormed : Type 0
MatchIsWellFormed =
    (limits : Limits) (structs : List StructDef) (params : ℕ) (mode : Mode) (a b : SymHeap) (bound : List (ℕ × Exp))
    (flexible avoid : List ℕ) (next : ℕ) (n : Matching) →
    HasParts limits structs params a → HasParts limits structs params b → All (IsBound limits params) bound →
    All (MayOccur limits params) flexible →
    MayName limits params b (argument_variables a b bound flexible ++ avoid) next → matching mode a b bound flexible avoid next ≡ On n →
    IsAnswered limits structs params (length a.spatial) n

-- where no more than 2^30 variables are to be avoided, doubles counted, the frame and the binding of a subtraction are well formed
abbrev pub SubtractIsWellFormed : Type 0
SubtractIsWellFormed =
    (structs : List StructDef) (params : ℕ) (a b : SymHeap) (bound : List (ℕ × Exp)) (flexible avoid : List ℕ) (frame : SymHeap)
    (binding : List (ℕ × Exp)) → AreStructs structs →
    IsSymHeap widest structs params a → IsSymHeap widest structs params b → All (IsBound widest params) bound →
    All (MayOccur widest params) flexible →
    length (argument_variables a b bound flexible ++ avoid) ≤ 1073741824 →
    subtract_avoiding a b bound flexible avoid ≡ sub.Match frame binding →
    IsSymHeap widest structs params frame × All (IsBound widest params) binding

-- and those of an abduction, with the missing part; the frame has no more atoms than a
pub record IsFound (limits : Limits) (structs : List StructDef) (params atoms : ℕ) (missing frame : SymHeap)
    (binding : List (ℕ × Exp)) : Type 0 where
  pub missing_parts : HasParts limits structs params missing
  pub frame_parts : HasParts limits structs params frame
  pub fewer : length frame.spatial ≤ atoms
  pub binding_parts : All (IsBound limits params) binding

abbrev pub BiabduceIsWellFormed : Type 0
BiabduceIsWellFormed =
    (structs : List StructDef) (params : ℕ) (a b : SymHeap) (bound : List (ℕ × Exp)) (flexible : List ℕ) (next : ℕ) (avoid : List ℕ)
    (missing frame : SymHeap) (binding : List (ℕ × Exp)) → AreStructs structs →
    IsSymHeap widest structs params a → IsSymHeap widest structs params b → All (IsBound widest params) bound →
    All (MayOccur widest params) flexible →
    length (argument_variables a b bound flexible ++ avoid) ≤ 1073741824 → next + names_of_all b.spatial ≤ 2147483648 →
    biabduce_avoiding a b bound flexible next avoid ≡ abd.Found missing frame binding →
    IsFound widest structs params (length a.spatial) missing frame binding

-- how large what a match makes is, of any arguments: no more atoms are left than there were; each new binding is of a flexible variable
-- that was
-- unbound, so there are no more of them than flexible variables; no more atoms are missing than are wanted; and no more parts than are
-- wanted,
-- with one for each wanted field
pub record HasSizes (a b : SymHeap) (bound : List (ℕ × Exp)) (flexible : List ℕ) (n : Matching) : Type 0 where
  pub left : length n.left ≤ length a.spatial
  pub bindings : length n.binding ≤ length bound + length flexible
  pub missing_atoms : length n.missing.spatial ≤ length b.spatial
  pub missing_parts : length n.missing.pure + length n.missing.spatial ≤ length b.pure + length b.spatial + fields_of_all b.spatial

-- in both modes
abbrev pub MatchHasSizes : Type 0
MatchHasSizes =
    (mode : Mode) (a b : SymHeap) (bound : List (ℕ × Exp)) (flexible avoid : List ℕ) (next : ℕ) (n : Matching) →
    matching mode a b bound flexible avoid next ≡ On n →
    HasSizes a b bound flexible n

-- a subtraction leaves the facts of a, and no more atoms than a has
pub record HasSubtractedSizes (a : SymHeap) (bound : List (ℕ × Exp)) (flexible : List ℕ) (frame : SymHeap)
    (binding : List (ℕ × Exp)) : Type 0 where
  pub facts : frame.pure ≡ a.pure
  pub atoms : length frame.spatial ≤ length a.spatial
  pub bindings : length binding ≤ length bound + length flexible

abbrev pub SubtractHasSizes : Type 0
SubtractHasSizes =
    (a b : SymHeap) (bound : List (ℕ × Exp)) (flexible avoid : List ℕ) (frame : SymHeap) (binding : List (ℕ × Exp)) →
    subtract_avoiding a b bound flexible avoid ≡ sub.Match frame binding →
    HasSubtractedSizes a bound flexible frame binding

-- an abduction leaves the facts of a with those that are missing, and no more atoms than a has
pub record HasFoundSizes (a b : SymHeap) (bound : List (ℕ × Exp)) (flexible : List ℕ) (missing frame : SymHeap)
    (binding : List (ℕ × Exp)) : Type 0 where
  pub facts : frame.pure ≡ a.pure ++ missing.pure
  pub atoms : length frame.spatial ≤ length a.spatial
  pub bindings : length binding ≤ length bound + length flexible
  pub missing_atoms : length missing.spatial ≤ length b.spatial
  pub missing_parts : length missing.pure + length missing.spatial ≤ length b.pure + length b.spatial + fields_of_all b.spatial

abbrev pub BiabduceHasSizes : Type 0
BiabduceHasSizes =
    (a b : SymHeap) (bound : List (ℕ × Exp)) (flexible : List ℕ) (next : ℕ) (avoid : List ℕ) (missing frame : SymHeap)
    (binding : List (ℕ × Exp)) →
    biabduce_avoiding a b bound flexible next avoid ≡ abd.Found missing frame binding →
    HasFoundSizes a b bound flexible missing frame binding
