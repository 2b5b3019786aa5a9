-- What new numbers are, and what a spec and a state mean in them.
use Rattle.std.specs.Prelude.{◌≡◌, ◌↔◌, ℕ, ◌+◌, ◌<◌, ◌≤◌, ℤ, true, false, List, [], length, map}
use Rattle.shape_data.specs.declared.machine.Cell.{Cell}
use Rattle.shape_data.specs.declared.program.StructDef.{StructDef}
use Rattle.shape_data.specs.declared.symbolic.Exp.{Exp}
use Rattle.shape_data.specs.declared.symbolic.Post.{Post}
use Rattle.shape_data.specs.declared.symbolic.SymHeap.{SymHeap}
use Rattle.shape_data.specs.declared.symbolic.SymState.{SymState}
use Rattle.shape_data.specs.Heap.{IsSum}
use Rattle.shape_data.specs.Meaning.{AgreesOnLogical, Holds, MeetsPost, MeetsState, value}
use Rattle.shape_data.specs.Valid.{values_from}
use Rattle.sym_parts.specs.Shapes.Symbolic.{beside, occurs_in}
use Rattle.sym_parts.specs.Laws.Fresh.{is_one_of}
use Rattle.sym_parts.specs.Laws.Mapped.{on_heap}
use Rattle.sym_matching.specs.Covers.{apart_from}
use Rattle.sym_matching.specs.Laws.{AgreesOn, GivesBeside, StaysBound}
use Rattle.sym_matching.specs.NewVariables.{at_its_place}
use Rattle.sym_matching.specs.Reading.{bound_exp}
use Rattle.sym_matching.specs.Variables.{with_heap, with_state}
use Rattle.sym_matching.specs.declared.renaming.parts.Numbers.{Numbers}
use Rattle.sym_matching.specs.Renaming.Apart.{number_of, numbers_apart}
use Rattle.sym_matching.specs.Renaming.Calls.{others_flexible, parameters_bound, post_in_caller, pre_apart, pre_numbers, stands_for}
use Rattle.sym_matching.specs.Renaming.Coverings.{state_apart}

-- NUMBERS

-- new numbers are existential, and not in use; they can be undone, so no two are the same; each is below 65,536 plus how many variables
-- are in use and how many get a number. Other variables keep their own
pub record AreApart (used variables : List ℕ) (apart : Numbers) : Type 0 where
  pub existential : (x : ℕ) → is_one_of variables x ≡ true → 65536 ≤ number_of apart x
  pub free : (x : ℕ) → is_one_of variables x ≡ true → is_one_of used (number_of apart x) ≡ false
  pub undone : (x : ℕ) → is_one_of variables x ≡ true → at_its_place apart.numbers apart.variables (number_of apart x) ≡ x
  pub near : (x : ℕ) → is_one_of variables x ≡ true → number_of apart x < 65536 + length used + length variables
  pub others : (x : ℕ) → is_one_of variables x ≡ false → number_of apart x ≡ x

abbrev pub NumbersAreApart : Type 0
NumbersAreApart = (used variables : List ℕ) → AreApart used variables (numbers_apart used variables)

-- CALLS

-- the values of a precondition's variables: those of what they stand for in the caller
abbrev pub standing : Numbers → List (ℕ × Exp) → (ℕ → ℤ) → ℕ → ℤ
standing apart binding t x = value t (stands_for apart binding x)

-- a precondition in its new numbers, read through a binding, holds where it holds under the values of what its variables stand for
abbrev pub PreInCaller : Type 0
PreInCaller =
    (structs : List StructDef) (apart : Numbers) (binding : List (ℕ × Exp)) (pre : SymHeap) (t : ℕ → ℤ) (heap : List Cell) →
    Holds structs t heap (on_heap (bound_exp binding) (pre_apart apart pre)) ↔ Holds structs (standing apart binding t) heap pre

-- where what was bound stays, the parameters stand for the arguments
abbrev pub ArgumentsStand : Type 0
ArgumentsStand =
    (used : List ℕ) (pre : SymHeap) (params : List (List ℕ)) (args : List Exp) (binding : List (ℕ × Exp)) → length params ≡ length args →
    StaysBound (parameters_bound (pre_numbers used (length args) pre) 0 args) binding → (t : ℕ → ℤ) →
    values_from (standing (pre_numbers used (length args) pre) binding t) 0 params ≡ map (value t) args

-- what a match says of a heap, for a call: under an assignment it is the sum of what holds the precondition, whose variables have the
-- values of what they stand for, and what holds the frame; and the parameters have the values of the arguments
pub record IsCalled (structs : List StructDef) (s : ℕ → ℤ) (heap : List Cell) (a : SymHeap) (avoid : List ℕ) (params : List (List ℕ))
    (args : List Exp) (pre : SymHeap)
    (apart : Numbers) (binding : List (ℕ × Exp)) (frame : SymHeap) : Type 0 where
  pub t : ℕ → ℤ
  pub lent : List Cell
  pub kept : List Cell
  pub agrees : (x : ℕ) → occurs_in x a ≡ true → t x ≡ s x
  pub avoids : (x : ℕ) → is_one_of avoid x ≡ true → t x ≡ s x
  pub logical : AgreesOnLogical s t
  pub sum : IsSum structs heap lent kept
  pub wanted : Holds structs (standing apart binding t) lent pre
  pub arguments : values_from (standing apart binding t) 0 params ≡ map (value t) args
  pub rest : Holds structs t kept frame

-- a match of the precondition in its new numbers is such a call, in both modes
abbrev pub MatchIsCall : Type 0
MatchIsCall =
    (structs : List StructDef) (s : ℕ → ℤ) (heap : List Cell) (a : SymHeap) (used avoid : List ℕ) (params : List (List ℕ)) (args : List Exp)
    (pre : SymHeap)
    (binding : List (ℕ × Exp)) (frame : SymHeap) → length params ≡ length args →
    (let apart = pre_numbers used (length args) pre in
    GivesBeside structs s heap a (pre_apart apart pre) (parameters_bound apart 0 args)
    (others_flexible apart (length args)) avoid binding frame →
    IsCalled structs s heap a avoid params args pre apart binding frame)

-- a result and a heap are as a post says, under an assignment that agrees with t on what is in use and on logical variables
pub record PostHolds (structs : List StructDef) (used : List ℕ) (t : ℕ → ℤ) (ret : ℤ) (heap : List Cell) (post : Post) : Type 0 where
  pub w : ℕ → ℤ
  pub agrees : AgreesOn used t w
  pub result : ret ≡ value w post.ret
  pub holds : Holds structs w heap post.heap

-- what meets a post, its logical variables being what those of the precondition stand for, is as the post in the caller says
abbrev pub PostInCaller : Type 0
PostInCaller =
    (structs : List StructDef) (used : List ℕ) (apart : Numbers) (binding : List (ℕ × Exp)) (post : Post) (t : ℕ → ℤ) (ret : ℤ)
    (heap : List Cell) →
    MeetsPost structs (standing apart binding t) ret heap post → PostHolds structs used t ret heap (post_in_caller used apart binding post)

-- a post beside a frame
abbrev pub post_beside : SymHeap → Post → Post
post_beside frame post = record { ret = post.ret; heap = beside frame post.heap }

-- the list has each variable of the heap
abbrev pub HasVariables : List ℕ → SymHeap → Type 0
HasVariables used heap = (x : ℕ) → is_one_of (with_heap [] heap) x ≡ true → is_one_of used x ≡ true

-- and beside what holds the frame, whose variables are in use, it is as the post beside the frame says
abbrev pub PostBesideFrame : Type 0
PostBesideFrame =
    (structs : List StructDef) (used : List ℕ) (apart : Numbers) (binding : List (ℕ × Exp)) (post : Post) (frame : SymHeap) (t : ℕ → ℤ)
    (ret : ℤ) (whole own kept : List Cell) →
    HasVariables used frame → Holds structs t kept frame → IsSum structs whole own kept →
    MeetsPost structs (standing apart binding t) ret own post →
    PostHolds structs used t ret whole (post_beside frame (post_in_caller used apart binding post))

-- COVERINGS

-- a state with new numbers for its existential variables means the same
abbrev pub StateApartMeets : Type 0
StateApartMeets =
    (used : List ℕ) (state : SymState) (structs : List StructDef) (s : ℕ → ℤ) (locals : List ℤ) (heap : List Cell) →
    MeetsState structs s locals heap state ↔ MeetsState structs s locals heap (state_apart used state)

-- the states that coverings match are those with new numbers
abbrev pub CoveringsAreApart : Type 0
CoveringsAreApart = (a b : SymState) → apart_from a b ≡ state_apart (with_state [] a) b
