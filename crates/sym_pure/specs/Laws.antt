-- Laws of the normal form.
use Rattle.std.specs.Prelude.{◌≡◌, ◌≢◌, ◌↔◌, ℕ, ◌+◌, ◌≤◌, ℤ, Bool, true, List, map, length}
use Rattle.shape_data.specs.declared.machine.Cell.{Cell}
use Rattle.shape_data.specs.declared.program.StructDef.{StructDef}
use Rattle.shape_data.specs.declared.symbolic.Exp.{Exp}
use Rattle.shape_data.specs.declared.symbolic.SymHeap.{SymHeap}
use Rattle.shape_data.specs.declared.symbolic.SymState.{SymState}
use Rattle.shape_data.specs.Meaning.{value, Holds, MeetsState}
use Rattle.shape_data.specs.WellFormed.{Limits, IsState}
use Rattle.sym_parts.specs.Laws.Each.{EachInState}
use Rattle.sym_pure.specs.declared.parts.Normal.{Normal}
use Rattle.sym_pure.specs.declared.parts.Normal.TheVariants.{Is, Contradiction}
use Rattle.sym_pure.specs.IsNormal.{is_normal}
use Rattle.sym_pure.specs.Normal.{normal}
use Rattle.sym_pure.specs.Sources.{differs}

-- the same locals and heaps meet the state and the form, under each assignment to the logical variables; nothing meets
-- a state whose form is a contradiction
abbrev pub MeansTheSame : SymState → Normal → Type 0
MeansTheSame state (Is form) =
    (structs : List StructDef) (s : ℕ → ℤ) (locals : List ℤ) (heap : List Cell) → MeetsState structs s locals heap state
    ↔ MeetsState structs s locals heap form
MeansTheSame state Contradiction =
    (structs : List StructDef) (s : ℕ → ℤ) (locals : List ℤ) (heap : List Cell) → ¬ MeetsState structs s locals heap state

-- the normal form keeps the meaning
abbrev pub NormalKeepsMeaning : Type 0
NormalKeepsMeaning = (state : SymState) → MeansTheSame state (normal state)

-- what holds of the state's heap holds of the form's, under the same assignment to all variables, and the locals have the
-- same values under it; nothing holds of a contradiction
abbrev pub HoldsAlike : SymState → Normal → Type 0
HoldsAlike state (Is form) =
    (structs : List StructDef) (t : ℕ → ℤ) (heap : List Cell) → Holds structs t heap state.heap →
    Holds structs t heap form.heap × (map (value t) form.locals ≡ map (value t) state.locals)
HoldsAlike state Contradiction = (structs : List StructDef) (t : ℕ → ℤ) (heap : List Cell) → ¬ Holds structs t heap state.heap

-- what holds of a state holds of its normal form
abbrev pub NormalHoldsAlike : Type 0
NormalHoldsAlike = (state : SymState) → HoldsAlike state (normal state)

-- what differs has different values in each heap that holds, under the same assignment
abbrev pub DiffersIsSound : Type 0
DiffersIsSound = (structs : List StructDef) (t : ℕ → ℤ) (heap : List Cell) (shape : SymHeap) (e f : Exp) → Holds structs t heap shape →
    differs shape e f ≡ true → value t e ≢ value t f

-- the form is normal
abbrev pub FormIsNormal : Type 0
FormIsNormal = (state form : SymState) → normal state ≡ Is form → is_normal form ≡ true

-- a normal state is its own form, and no other state is
abbrev pub NormalIsItself : Type 0
NormalIsItself = (state : SymState) → (is_normal state ≡ true) ↔ (normal state ≡ Is state)

-- what holds of each expression of a state, by a test, holds of each of its form
abbrev pub FormHasNoOther : Type 0
FormHasNoOther =
    (test : Exp → Bool) (state form : SymState) → normal state ≡ Is form → EachInState (λ e. test e ≡ true) state →
    EachInState (λ e. test e ≡ true) form

-- a form has no more parts than its state, and as many locals
pub record HasNoMoreParts (state form : SymState) : Type 0 where
  pub parts : length form.heap.pure + length form.heap.spatial ≤ length state.heap.pure + length state.heap.spatial
  pub locals : length form.locals ≡ length state.locals

abbrev pub FormHasNoMoreParts : Type 0
FormHasNoMoreParts = (state form : SymState) → normal state ≡ Is form → HasNoMoreParts state form

-- the form of a well-formed state is well formed, within the same limits
abbrev pub FormIsWellFormed : Type 0
FormIsWellFormed =
    (limits : Limits) (structs : List StructDef) (params slots : ℕ) (state form : SymState) → normal state ≡ Is form →
    IsState limits structs params slots state → IsState limits structs params slots form
