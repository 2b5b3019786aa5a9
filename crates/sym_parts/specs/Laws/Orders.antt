-- The order of atoms does not matter.
use Rattle.std.specs.Prelude.{◌↔◌, ℕ, ℤ, Bool, not, List, ◌∷◌, ◌++◌, filter}
use Rattle.shape_data.specs.declared.machine.Cell.{Cell}
use Rattle.shape_data.specs.declared.program.StructDef.{StructDef}
use Rattle.shape_data.specs.declared.symbolic.Atom.{Atom}
use Rattle.shape_data.specs.Meaning.{HoldsAtoms}

-- two lists of atoms hold of the same heaps
abbrev pub SayTheSame : List Atom → List Atom → Type 0
SayTheSame xs ys = (structs : List StructDef) (t : ℕ → ℤ) (heap : List Cell) → HoldsAtoms structs t xs heap ↔ HoldsAtoms structs t ys heap

-- an atom within a list may stand in front
abbrev pub AtomMayMove : Type 0
AtomMayMove = (before : List Atom) (atom : Atom) (after : List Atom) → SayTheSame (before ++ atom ∷ after) (atom ∷ before ++ after)

-- the atoms that pass a test may stand before those that don't
abbrev pub AtomsMayPart : Type 0
AtomsMayPart = (test : Atom → Bool) (atoms : List Atom) → SayTheSame atoms (filter test atoms ++ filter (λ atom. not (test atom)) atoms)

-- in a list of atoms a part may be replaced by one that says the same
abbrev pub PartMayChange : Type 0
PartMayChange = (before xs ys after : List Atom) → SayTheSame xs ys → SayTheSame (before ++ xs ++ after) (before ++ ys ++ after)
